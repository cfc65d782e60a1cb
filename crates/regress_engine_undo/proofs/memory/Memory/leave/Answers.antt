use Rattle.std.proofs.Common.{◌≡◌, ◌++◌, map, ap, ap₂, ◌∙◌, refl, sym}
use Rattle.regress_engine_runs.specs.States.{mixed}
use Rattle.regress_engine_search.specs.StateViews.{marks_of}
use Rattle.regress_engine_undo.specs.Held.{held, frame_of, undo_of}
use Rattle.regress_engine_undo.proofs.MemoryLemmas.{held-none}
use Rattle.regress_engine_undo.proofs.LeaveLemmas.{leaves-all, leaves-empty, leaves-negated, leaves-positive}
use Rattle.regress_engine_undo.proofs.memory.Memory.leave.Goals as goal

pub returns-then-is_empty-clause-leaves : goal.returns-then-is_empty-clause-leaves
returns-then-is_empty-clause-leaves c =
    (refl, refl, leaves-empty c.args.spot.now (held c.args.self.now) (held-none undo_of c.args.self.now.stack.items c.as_slice.result.now c.as_slice.ensures.value c.if-is_empty.ensures))

pub returns-then-is_negated-clause-leaves : goal.returns-then-is_negated-clause-leaves
returns-then-is_negated-clause-leaves c =
    leaves-negated c.args.spot.now (record c.args.spot.now { forward = c.in-Some.frame.spot.forward }) (held c.args.self.now) (held c.unwind.new.self) (frame_of c.in-Some.frame) c.in-Some.ensures.rest (sym c.is_negated.ensures ∙ c.if-is_negated.true) refl

pub returns-clause-leaves : goal.returns-clause-leaves
returns-clause-leaves c =
    let h = held c.args.self.now in
    let k = held c.unwind.new.self in
    let f = frame_of c.in-Some.frame in
    let items = c.in_ok-extend_from_slice.ensures.items in
    let told : (held c.carry.new.self).groups ≡ mixed 0 f.first f.last h.groups k.groups = c.in_ok-carry.ensures.groups ∙ ap (λ gs. mixed 0 f.first f.last (map marks_of gs) k.groups) (c.deref-2.ensures.value ∙ items ∙ ap₂ (λ xs ys. xs ++ ys) c.clear.ensures.items c.deref.ensures.value) in
    leaves-positive c.args.spot.now (record c.args.spot.now { at = f.continuation; offset = c.end_offset-spot.result; forward = c.in-Some.frame.spot.forward }) h k (held c.carry.new.self) f c.in-Some.ensures.rest (sym c.is_negated.ensures ∙ c.if-is_negated.false) refl refl c.end_offset-spot.ensures
    c.in_ok-carry.ensures.loops told c.in_ok-carry.ensures.same

pub returns-in_default-clause-leaves : goal.returns-in_default-clause-leaves
returns-in_default-clause-leaves c =
    let before = c.in_ok-extend_from_slice.ensures.items ∙ ap₂ (λ xs ys. xs ++ ys) c.clear.ensures.items c.deref.ensures.value in
    let after = c.in_ok-extend_from_slice-2.ensures.items ∙ ap₂ (λ xs ys. xs ++ ys) c.clear-in_default.ensures.items c.deref-in_default.ensures.value in
    (refl, ap (map marks_of) (after ∙ before), leaves-all c.args.spot.now (held c.args.self.now) (held c.unwind.new.self) c.in_default.ensures.rest)
