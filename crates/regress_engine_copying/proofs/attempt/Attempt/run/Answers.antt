use Rattle.std.specs.Prelude.{replicate, option_map}
use Rattle.std.proofs.Common.{◌≡◌, ℕ, true, [], ◌∷◌, Some, refl, sym, ap, ap₂, ◌∙◌, subst}
use Rattle.regress_engine_code.specs.Standing.{program_of}
use Rattle.regress_engine_input.specs.Views.{direction_of, input_of}
use Rattle.regress_engine_runs.specs.States.{Whole, unset, first_state}
use Rattle.regress_engine_search.proofs.TaskLemmas.{tried-stands, tried-reads, tried-on, tried-less, tried-ends}
use Rattle.regress_engine_copying.specs.Held.{held, tried}
use Rattle.regress_engine_copying.specs.StateOf.{state_of, groups_of}
use Rattle.regress_engine_copying.specs.Tasks.{work_of, task_of}
use Rattle.regress_engine_copying.specs.Stepping.{Steps}
use Rattle.regress_engine_copying.proofs.SoundLemmas.{alone-sound}
use Rattle.regress_engine_copying.proofs.TryLemmas.{trying-first, trying-fails, taken-steps}
use Rattle.regress_engine_copying.proofs.attempt.Attempt.run.Goals as goal

pub loop-state-init : goal.loop-state-init
loop-state-init g c =
    let program = program_of c.args.self.now.program.now in
    let v = g.Input.InputIndexer.view c.args.self.now.input in
    let start = c.args.self.now.start in
    let told : state_of c.in_ok-first.field-0 ≡ first_state program start = c.in_ok-first.ensures ∙ ap₂ (λ (l n : ℕ). record { at = 0; offset = start; loops = replicate l (0, 0); groups = replicate n unset }) c.loops-loops.ensures c.groups-groups.ensures in
    let is : held c.begin.new.self ≡ record { forward = true; entries = tried (first_state program start) ∷ [] } = c.in_ok-begin.ensures ∙ ap (λ (s : Whole). record { forward = true; entries = tried s ∷ [] }) told in
    record {
      tried = trying-first program v start c.args.self.now.ends (held c.begin.new.self) c.requires.reads is;
      sound = alone-sound program start (held c.begin.new.self) true is;
    }

pub step-requires-clause-whole : goal.step-requires-clause-whole
step-requires-clause-whole g c = (c.in-Some.ensures.sound (program_of c.args.self.now.program.now) c.loop-state.invariant.sound).1

pub step-requires-clause-sound : goal.step-requires-clause-sound
step-requires-clause-sound g c = (c.in-Some.ensures.sound (program_of c.args.self.now.program.now) c.loop-state.invariant.sound).0

pub step-requires-clause-stands : goal.step-requires-clause-stands
step-requires-clause-stands g c =
    let program = program_of c.args.self.now.program.now in
    let v = g.Input.InputIndexer.view c.args.self.now.input in
    let s = state_of c.in-Some.state in
    let h = held c.next.new.self in
    tried-stands program v _ _ (direction_of h.forward) s (work_of h.entries)
    (tried-on program v _ _ 0 _ (task_of (s ∷ []) h) (c.in-Some.ensures.leads program (input_of v)) c.loop-state.invariant.tried)

pub step-requires-clause-reads : goal.step-requires-clause-reads
step-requires-clause-reads g c =
    let program = program_of c.args.self.now.program.now in
    let v = g.Input.InputIndexer.view c.args.self.now.input in
    let s = state_of c.in-Some.state in
    let h = held c.next.new.self in
    tried-reads program v _ _ (direction_of h.forward) s (work_of h.entries)
    (tried-on program v _ _ 0 _ (task_of (s ∷ []) h) (c.in-Some.ensures.leads program (input_of v)) c.loop-state.invariant.tried)

pub returns-in-Some-2 : goal.returns-in-Some-2
returns-in-Some-2 g c =
    let program = program_of c.args.self.now.program.now in
    let v = g.Input.InputIndexer.view c.args.self.now.input in
    let s = state_of c.in-Some.state in
    let h = held c.next.new.self in
    let found = c.in-Some-2.found in
    let ended = subst (λ x. Steps program (input_of v) s h (option_map state_of x) (held c.step.new.stack)) c.in-Some-2.is c.in_ok-found.ensures.leads in
    tried-ends program v c.args.self.now.start c.args.self.now.ends (task_of (s ∷ []) h) s
    (tried-on program v _ _ 0 _ (task_of (s ∷ []) h) (c.in-Some.ensures.leads program (input_of v)) c.loop-state.invariant.tried) ended.1
    found.offset (groups_of (Some found)) (ap (λ (w : Whole). w.offset) (sym ended.0)) (ap (λ (w : Whole). w.groups) (sym ended.0))

pub loop-state-smaller : goal.loop-state-smaller
loop-state-smaller g c =
    let program = program_of c.args.self.now.program.now in
    let v = g.Input.InputIndexer.view c.args.self.now.input in
    let s = state_of c.in-Some.state in
    let h = held c.next.new.self in
    let k = held c.step.new.stack in
    tried-less program v _ _ _ (task_of [] k)
    (taken-steps program v s (held c.loop-state.stack) h k (c.in-Some.ensures.leads program (input_of v))
    (subst (λ x. Steps program (input_of v) s h (option_map state_of x) k) c.in_default-2.is c.in_ok-found.ensures.leads)) c.loop-state.invariant.tried

pub loop-state-preserved : goal.loop-state-preserved
loop-state-preserved g c =
    let program = program_of c.args.self.now.program.now in
    let v = g.Input.InputIndexer.view c.args.self.now.input in
    let s = state_of c.in-Some.state in
    let h = held c.next.new.self in
    let k = held c.step.new.stack in
    record {
      tried = tried-on program v _ _ 1 _ (task_of [] k)
          (taken-steps program v s (held c.loop-state.stack) h k (c.in-Some.ensures.leads program (input_of v))
          (subst (λ x. Steps program (input_of v) s h (option_map state_of x) k) c.in_default-2.is c.in_ok-found.ensures.leads)) c.loop-state.invariant.tried;
      sound = c.in_ok-found.ensures.sound;
    }

pub returns : goal.returns
returns g c =
    let program = program_of c.args.self.now.program.now in
    let v = g.Input.InputIndexer.view c.args.self.now.input in
    trying-fails program v c.args.self.now.start c.args.self.now.ends (held c.next.new.self)
    (tried-on program v _ _ 0 _ (task_of [] (held c.next.new.self)) (c.in_default.ensures.leads program (input_of v)) c.loop-state.invariant.tried)
    (c.in_default.ensures.exhausted refl)
