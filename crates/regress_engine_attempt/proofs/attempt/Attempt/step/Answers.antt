use Rattle.std.proofs.Common.{◌≡◌, ℕ, ◌+◌, ◌-◌, suc, Bool, true, length, inl, inr, sym, ap, ◌∙◌, subst, refl, arith}
use Rattle.regress_meaning.specs.Inputs.{Input}
use Rattle.regress_engine_insn.specs.Instructions.{LoopFields, Program, Stands, surplus}
use Rattle.regress_engine_insn.specs.InsnViews.{fields}
use Rattle.regress_engine_insn.specs.Instructions as code
use Rattle.regress_engine_code.specs.Standing.{program_of}
use Rattle.regress_engine_input.specs.Views.{direction_of, input_of}
use Rattle.regress_engine_runs.specs.States.{begun, ended}
use Rattle.regress_engine_search.specs.StateViews.{marks_of}
use Rattle.regress_engine_search.specs.Tasks.{Leads}
use Rattle.regress_engine_runs.specs.Runs.{room}
use Rattle.regress_engine_search.proofs.InsnLemmas.{stands-as}
use Rattle.regress_engine_search.proofs.PlaceLemmas.{units-are}
use Rattle.regress_engine_undo.specs.Held.{Held, held}
use Rattle.regress_engine_undo.specs.declared.undo.Spot.{Spot}
use Rattle.regress_engine_undo.specs.Tasks.{state_at, task, task_of, ways_in}
use Rattle.regress_engine_undo.proofs.BackLemmas.{frame-held}
use Rattle.regress_engine_undo.proofs.DispatchLemmas.{step-on, jump-on, mark-on, submatch-on}
use Rattle.regress_engine_undo.proofs.PlainLemmas.{none-stands, goal-ends}
use Rattle.regress_engine_undo.proofs.TurnLemmas.{first-place}
use Rattle.regress_engine_attempt.proofs.attempt.Attempt.step.Goals as goal

-- a repetition is entered, of which as many iterations are taken as done, said otherwise
done-as : (program : Program) (input : Input) (m n : ℕ) → m ≡ n → (f : LoopFields) (p : Spot) (h : Held) (going : Bool) (q : Spot) (k : Held)
    → Leads program input 0 (task_of program input (ways_in m f (state_at p h)) p h) (task program input going q k)
    → Leads program input 0 (task_of program input (ways_in n f (state_at p h)) p h) (task program input going q k)
done-as program input m n same f p h going q k on =
    subst (λ x. Leads program input 0 (task_of program input (ways_in x f (state_at p h)) p h) (task program input going q k)) same on

pub group_data-requires : goal.group_data-requires
group_data-requires g c =
    let program = program_of c.args.self.now.program.now in
    let input = input_of (g.Input.InputIndexer.view c.args.self.now.input) in
    let p = c.args.spot.now in
    let h = held c.args.memory.now in
    let here = stands-as program p.at _ _ c.in-BeginCaptureGroup.is c.instruction-insn.ensures.stands in
    let there = c.requires.suits.closed p.at _ here in
    let same = c.requires.sound.groups in
    omega (arith, there, same)

pub mark-requires-clause-there : goal.mark-requires-clause-there
mark-requires-clause-there g c =
    let program = program_of c.args.self.now.program.now in
    let input = input_of (g.Input.InputIndexer.view c.args.self.now.input) in
    let p = c.args.spot.now in
    let h = held c.args.memory.now in
    let here = stands-as program p.at _ _ c.in-BeginCaptureGroup.is c.instruction-insn.ensures.stands in
    let there = c.requires.suits.closed p.at _ here in
    let same = c.requires.sound.groups in
    omega (arith, there, same)

pub count_reference-requires : goal.count_reference-requires
count_reference-requires g c =
    let program = program_of c.args.self.now.program.now in
    let p = c.args.spot.now in
    let here = stands-as program p.at _ _ c.in-BackRef.is c.instruction-insn.ensures.stands in
    let there = c.requires.suits.closed p.at _ here in
    let same = c.requires.sound.groups in
    omega (arith, there, same)

pub group_data-requires-in-EndCaptureGroup : goal.group_data-requires-in-EndCaptureGroup
group_data-requires-in-EndCaptureGroup g c =
    let program = program_of c.args.self.now.program.now in
    let input = input_of (g.Input.InputIndexer.view c.args.self.now.input) in
    let p = c.args.spot.now in
    let h = held c.args.memory.now in
    let here = stands-as program p.at _ _ c.in-EndCaptureGroup.is c.instruction-insn.ensures.stands in
    let there = c.requires.suits.closed p.at _ here in
    let same = c.requires.sound.groups in
    omega (arith, there, same)

pub mark-requires-in-EndCaptureGroup-clause-there : goal.mark-requires-in-EndCaptureGroup-clause-there
mark-requires-in-EndCaptureGroup-clause-there g c =
    let program = program_of c.args.self.now.program.now in
    let input = input_of (g.Input.InputIndexer.view c.args.self.now.input) in
    let p = c.args.spot.now in
    let h = held c.args.memory.now in
    let here = stands-as program p.at _ _ c.in-EndCaptureGroup.is c.instruction-insn.ensures.stands in
    let there = c.requires.suits.closed p.at _ here in
    let same = c.requires.sound.groups in
    omega (arith, there, same)

pub mark-requires-in-ResetCaptureGroup-clause-there : goal.mark-requires-in-ResetCaptureGroup-clause-there
mark-requires-in-ResetCaptureGroup-clause-there g c =
    let program = program_of c.args.self.now.program.now in
    let input = input_of (g.Input.InputIndexer.view c.args.self.now.input) in
    let p = c.args.spot.now in
    let h = held c.args.memory.now in
    let here = stands-as program p.at _ _ c.in-ResetCaptureGroup.is c.instruction-insn.ensures.stands in
    let there = c.requires.suits.closed p.at _ here in
    let same = c.requires.sound.groups in
    omega (arith, there, same)

pub enter-requires-clause-there : goal.enter-requires-clause-there
enter-requires-clause-there g c =
    let program = program_of c.args.self.now.program.now in
    let input = input_of (g.Input.InputIndexer.view c.args.self.now.input) in
    let p = c.args.spot.now in
    let h = held c.args.memory.now in
    let here = stands-as program p.at _ _ c.in-EnterLoop.is c.instruction-insn.ensures.stands in
    let fits = c.requires.suits.closed p.at _ here in
    let there = fits.0 in
    let same = c.requires.sound.loops in
    omega (arith, there, same)

pub repeat-requires-clause-order : goal.repeat-requires-clause-order
repeat-requires-clause-order g c =
    let program = program_of c.args.self.now.program.now in
    let input = input_of (g.Input.InputIndexer.view c.args.self.now.input) in
    let p = c.args.spot.now in
    let h = held c.args.memory.now in
    let here = stands-as program p.at _ _ c.in-Loop1CharBody.is c.instruction-insn.ensures.stands in
    (c.requires.suits.closed p.at _ here).3

pub repeat-requires-clause-body : goal.repeat-requires-clause-body
repeat-requires-clause-body g c =
    let program = program_of c.args.self.now.program.now in
    let input = input_of (g.Input.InputIndexer.view c.args.self.now.input) in
    let p = c.args.spot.now in
    let h = held c.args.memory.now in
    let here = stands-as program p.at _ _ c.in-Loop1CharBody.is c.instruction-insn.ensures.stands in
    let fits = c.requires.suits.closed p.at _ here in
    let e : suc p.at ≡ p.at + 2 - 1 = omega arith in
    (fits.0, subst (λ a. Stands program a fits.0) e fits.1, fits.2, (c.requires.reads _ here refl).0, omega arith)

pub choose-requires-clause-place : goal.choose-requires-clause-place
choose-requires-clause-place g c =
    let program = program_of c.args.self.now.program.now in
    let here = stands-as program c.args.spot.now.at _ _ c.in-Alt.is c.instruction-insn.ensures.stands in
    let (i, there, is) = c.is_turn_at.ensures c.if-is_turn_at.true in
    first-place program (g.Input.InputIndexer.view c.args.self.now.input) c.args.spot.now (held c.args.memory.now) c.in-Alt.secondary i here there is c.requires.later

pub returns-in-Goal-clause-leads : goal.returns-in-Goal-clause-leads
returns-in-Goal-clause-leads g c =
    let compiled = c.args.self.now.program.now in
    let program = program_of compiled in
    let v = g.Input.InputIndexer.view c.args.self.now.input in
    let p = c.args.spot.now in
    let h = held c.args.memory.now in
    let here = stands-as program p.at _ _ c.in-Goal.is c.instruction-insn.ensures.stands in
    let none = sym c.has_submatches.ensures ∙ c.if-not-has_submatches.true in
    (refl, refl, goal-ends program v (none-stands program compiled.insns.items refl none) (input_of v) p h c.requires.sound here)

pub returns-in-Jump-clause-leads : goal.returns-in-Jump-clause-leads
returns-in-Jump-clause-leads g c =
    let program = program_of c.args.self.now.program.now in
    let input = input_of (g.Input.InputIndexer.view c.args.self.now.input) in
    let p = c.args.spot.now in
    let h = held c.args.memory.now in
    let here = stands-as program p.at _ _ c.in-Jump.is c.instruction-insn.ensures.stands in
    jump-on program input p h c.in-Jump.target here

pub way_of_two-way-requires-clause-stands : goal.way_of_two-way-requires-clause-stands
way_of_two-way-requires-clause-stands g c = stands-as (program_of c.args.self.now.program.now) c.args.spot.now.at _ _ c.in-Alt.is c.instruction-insn.ensures.stands

pub returns-then-way-spot-clause-leads : goal.returns-then-way-spot-clause-leads
returns-then-way-spot-clause-leads g c = elim (c.way_of_two-way.ensures (held c.args.memory.now)) [
  | inl same ↦ absurd (c.if-way-spot.true same)
  | inr on ↦ on
]

pub returns-in_ok-fork-in-Alt-clause-leads : goal.returns-in_ok-fork-in-Alt-clause-leads
returns-in_ok-fork-in-Alt-clause-leads g c =
    let program = program_of c.args.self.now.program.now in
    let input = input_of (g.Input.InputIndexer.view c.args.self.now.input) in
    let p = c.args.spot.now in
    let h = held c.args.memory.now in
    let here = stands-as program p.at _ _ c.in-Alt.is c.instruction-insn.ensures.stands in
    step-on program input _ p _ h _ true here refl (c.in_ok-fork-in-Alt.ensures.leads program input)

pub returns-in_ok-mark-in-BeginCaptureGroup-clause-leads : goal.returns-in_ok-mark-in-BeginCaptureGroup-clause-leads
returns-in_ok-mark-in-BeginCaptureGroup-clause-leads g c =
    let program = program_of c.args.self.now.program.now in
    let input = input_of (g.Input.InputIndexer.view c.args.self.now.input) in
    let p = c.args.spot.now in
    let h = held c.args.memory.now in
    let here = stands-as program p.at _ _ c.in-BeginCaptureGroup.is c.instruction-insn.ensures.stands in
    mark-on program input (code.begin_group c.in-BeginCaptureGroup.group) p _ h _ c.in-BeginCaptureGroup.group _ _ here refl
    (c.begun-marks.ensures ∙ ap (begun (direction_of p.forward) p.offset) c.group_data.ensures) refl c.in_ok-mark-in-BeginCaptureGroup.ensures.leads

pub returns-in_ok-mark-in-EndCaptureGroup-clause-leads : goal.returns-in_ok-mark-in-EndCaptureGroup-clause-leads
returns-in_ok-mark-in-EndCaptureGroup-clause-leads g c =
    let program = program_of c.args.self.now.program.now in
    let input = input_of (g.Input.InputIndexer.view c.args.self.now.input) in
    let p = c.args.spot.now in
    let h = held c.args.memory.now in
    let here = stands-as program p.at _ _ c.in-EndCaptureGroup.is c.instruction-insn.ensures.stands in
    mark-on program input (code.end_group c.in-EndCaptureGroup.group) p _ h _ c.in-EndCaptureGroup.group _ _ here refl
    (c.ended-marks.ensures ∙ ap (ended (direction_of p.forward) p.offset) c.group_data-in-EndCaptureGroup.ensures) refl c.in_ok-mark-in-EndCaptureGroup.ensures.leads

pub returns-in_ok-mark-in-ResetCaptureGroup-clause-leads : goal.returns-in_ok-mark-in-ResetCaptureGroup-clause-leads
returns-in_ok-mark-in-ResetCaptureGroup-clause-leads g c =
    let program = program_of c.args.self.now.program.now in
    let input = input_of (g.Input.InputIndexer.view c.args.self.now.input) in
    let p = c.args.spot.now in
    let h = held c.args.memory.now in
    let here = stands-as program p.at _ _ c.in-ResetCaptureGroup.is c.instruction-insn.ensures.stands in
    mark-on program input (code.reset_group c.in-ResetCaptureGroup.group) p _ h _ c.in-ResetCaptureGroup.group _ _ here refl
    (ap marks_of c.new.ensures) refl c.in_ok-mark-in-ResetCaptureGroup.ensures.leads

pub returns-in_ok-going-in-EnterLoop-clause-leads : goal.returns-in_ok-going-in-EnterLoop-clause-leads
returns-in_ok-going-in-EnterLoop-clause-leads g c =
    let program = program_of c.args.self.now.program.now in
    let input = input_of (g.Input.InputIndexer.view c.args.self.now.input) in
    let p = c.args.spot.now in
    let h = held c.args.memory.now in
    let here = stands-as program p.at _ _ c.in-EnterLoop.is c.instruction-insn.ensures.stands in
    let v = g.Input.InputIndexer.view c.args.self.now.input in
    let ahead = c.units_ahead-ahead.ensures ∙ ap (λ us. room (length us) (direction_of p.forward) p.offset) (sym (units-are v)) in
    let done = c.surplus.ensures ∙ ap (surplus c.in-EnterLoop.repetition.min_iters) ahead in
    step-on program input (code.enter_loop (fields c.in-EnterLoop.repetition)) p _ h _ _ here refl (done-as program input _ _ done (fields c.in-EnterLoop.repetition) p h _ _ _ (c.in_ok-going-in-EnterLoop.ensures.leads program input c.is_dead-dead.ensures))

pub returns-in_ok-going-in-Loop1CharBody-clause-leads : goal.returns-in_ok-going-in-Loop1CharBody-clause-leads
returns-in_ok-going-in-Loop1CharBody-clause-leads g c =
    let program = program_of c.args.self.now.program.now in
    let input = input_of (g.Input.InputIndexer.view c.args.self.now.input) in
    let p = c.args.spot.now in
    let h = held c.args.memory.now in
    let here = stands-as program p.at _ _ c.in-Loop1CharBody.is c.instruction-insn.ensures.stands in
    step-on program input _ p _ h _ _ here refl c.in_ok-going-in-Loop1CharBody.ensures.leads

pub returns-in_ok-begin_around-in-Lookahead-clause-leads : goal.returns-in_ok-begin_around-in-Lookahead-clause-leads
returns-in_ok-begin_around-in-Lookahead-clause-leads g c =
    let program = program_of c.args.self.now.program.now in
    let input = input_of (g.Input.InputIndexer.view c.args.self.now.input) in
    let p = c.args.spot.now in
    let h = held c.args.memory.now in
    let here = stands-as program p.at _ _ c.in-Lookahead.is c.instruction-insn.ensures.stands in
    submatch-on program input p _ h _ _ refl refl refl here c.in_ok-begin_around-in-Lookahead.ensures.pushed c.in_ok-begin_around-in-Lookahead.ensures.spot

pub returns-in_ok-begin_around-in-Lookahead-clause-sound : goal.returns-in_ok-begin_around-in-Lookahead-clause-sound
returns-in_ok-begin_around-in-Lookahead-clause-sound g c =
    let program = program_of c.args.self.now.program.now in
    let input = input_of (g.Input.InputIndexer.view c.args.self.now.input) in
    let p = c.args.spot.now in
    let h = held c.args.memory.now in
    let here = stands-as program p.at _ _ c.in-Lookahead.is c.instruction-insn.ensures.stands in
    frame-held program (g.Input.InputIndexer.view c.args.self.now.input) h _ _ c.in_ok-begin_around-in-Lookahead.ensures.pushed (c.requires.suits.closed p.at _ here) here c.requires.sound

pub returns-in_ok-begin_around-in-Lookbehind-clause-leads : goal.returns-in_ok-begin_around-in-Lookbehind-clause-leads
returns-in_ok-begin_around-in-Lookbehind-clause-leads g c =
    let program = program_of c.args.self.now.program.now in
    let input = input_of (g.Input.InputIndexer.view c.args.self.now.input) in
    let p = c.args.spot.now in
    let h = held c.args.memory.now in
    let here = stands-as program p.at _ _ c.in-Lookbehind.is c.instruction-insn.ensures.stands in
    submatch-on program input p _ h _ _ refl refl refl here c.in_ok-begin_around-in-Lookbehind.ensures.pushed c.in_ok-begin_around-in-Lookbehind.ensures.spot

pub returns-in_ok-begin_around-in-Lookbehind-clause-sound : goal.returns-in_ok-begin_around-in-Lookbehind-clause-sound
returns-in_ok-begin_around-in-Lookbehind-clause-sound g c =
    let program = program_of c.args.self.now.program.now in
    let input = input_of (g.Input.InputIndexer.view c.args.self.now.input) in
    let p = c.args.spot.now in
    let h = held c.args.memory.now in
    let here = stands-as program p.at _ _ c.in-Lookbehind.is c.instruction-insn.ensures.stands in
    frame-held program (g.Input.InputIndexer.view c.args.self.now.input) h _ _ c.in_ok-begin_around-in-Lookbehind.ensures.pushed (c.requires.suits.closed p.at _ here) here c.requires.sound

pub returns-in_ok-begin_atomic-in-Atomic-clause-leads : goal.returns-in_ok-begin_atomic-in-Atomic-clause-leads
returns-in_ok-begin_atomic-in-Atomic-clause-leads g c =
    let program = program_of c.args.self.now.program.now in
    let input = input_of (g.Input.InputIndexer.view c.args.self.now.input) in
    let p = c.args.spot.now in
    let h = held c.args.memory.now in
    let here = stands-as program p.at _ _ c.in-Atomic.is c.instruction-insn.ensures.stands in
    submatch-on program input p _ h _ _ refl refl refl here c.in_ok-begin_atomic-in-Atomic.ensures.pushed c.in_ok-begin_atomic-in-Atomic.ensures.spot

pub returns-in_ok-begin_atomic-in-Atomic-clause-sound : goal.returns-in_ok-begin_atomic-in-Atomic-clause-sound
returns-in_ok-begin_atomic-in-Atomic-clause-sound g c =
    let program = program_of c.args.self.now.program.now in
    let input = input_of (g.Input.InputIndexer.view c.args.self.now.input) in
    let p = c.args.spot.now in
    let h = held c.args.memory.now in
    let here = stands-as program p.at _ _ c.in-Atomic.is c.instruction-insn.ensures.stands in
    frame-held program (g.Input.InputIndexer.view c.args.self.now.input) h _ _ c.in_ok-begin_atomic-in-Atomic.ensures.pushed (c.requires.suits.closed p.at _ here) here c.requires.sound
