use Rattle.std.proofs.Common.{ℕ, length, refl, sym, ap, ap₂, ◌∙◌, arith}
use Rattle.regress_engine_runs.specs.States.{Whole}
use Rattle.regress_engine_search.specs.Submatches.{submatch_of, end_offset}
use Rattle.regress_engine_copying.specs.StateOf.{state_of}
use Rattle.regress_engine_copying.specs.Held.{held}
use Rattle.regress_engine_copying.proofs.LeaveLemmas.{leaves-all, leaves-negated, leaves-positive}
use Rattle.regress_engine_copying.proofs.SoundLemmas.{pushed-sound}
use Rattle.regress_engine_copying.proofs.stack.Stack.leave.Goals as goal

pub returns-in_default-clause-leaves : goal.returns-in_default-clause-leaves
returns-in_default-clause-leaves c = λ program input here.
    (refl, leaves-all program input (state_of c.args.found) (held c.args.self.now) here (held c.unwind.new.self) c.in_default.ensures.outside)

pub returns-then-is_negated-clause-leaves : goal.returns-then-is_negated-clause-leaves
returns-then-is_negated-clause-leaves c = λ program input here.
    leaves-negated program input (state_of c.args.found) (held c.args.self.now) here c.in-Some.frame (state_of c.in-Some.state) (held c.unwind.new.self) c.in-Some.ensures.outside (sym c.is_negated.ensures ∙ c.if-is_negated.true)

pub take_groups-requires-clause-there : goal.take_groups-requires-clause-there
take_groups-requires-clause-there c = λ k low high.
    let was = c.in-Some.ensures.sound c.requires.0 c.requires.1 in
    let less = was.1.0 k low high in
    let same = was.1.1.groups in
    omega (arith, less, same)

pub take_groups-requires-clause-count : goal.take_groups-requires-clause-count
take_groups-requires-clause-count c =
    let was = c.in-Some.ensures.sound c.requires.0 c.requires.1 in
    c.requires.2.groups ∙ sym was.1.1.groups

pub returns-clause-leaves : goal.returns-clause-leaves
returns-clause-leaves c = λ program input here.
    let kind = submatch_of c.in-Some.frame.kind in
    let taken = c.take_groups.ensures.taken in
    let told = c.end_offset.ensures ∙ ap (λ (w : Whole). end_offset kind w.offset c.args.found.offset) taken in
    leaves-positive program input (state_of c.args.found) (held c.args.self.now) here c.in-Some.frame (state_of c.in-Some.state) _ (held c.unwind.new.self) (held c.push.new.self) c.in-Some.ensures.outside (sym c.is_negated.ensures ∙ c.if-is_negated.false)
    (ap₂ (λ (w : Whole) (o : ℕ). record w { at = c.in-Some.frame.continuation; offset = o }) taken told) c.in_ok-push.ensures

pub returns-clause-sound : goal.returns-clause-sound
returns-clause-sound c = λ program sound whole.
    let was = c.in-Some.ensures.sound program sound in
    pushed-sound program _ (record (held c.unwind.new.self) { forward = c.in-Some.frame.forward }) (held c.push.new.self) c.in_ok-push.ensures
    (record { loops = ap (λ (w : Whole). length w.loops) c.take_groups.ensures.taken ∙ was.1.1.loops; groups = c.take_groups.ensures.count ∙ was.1.1.groups })
    was.0
