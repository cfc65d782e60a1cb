use Rattle.std.proofs.Common.{sym, ap, ◌∙◌, arith}
use Rattle.std.proofs.lemmas.Result.{on_ok_weaker}
use Rattle.regress_engine_insn.specs.Instructions.{enter_loop, loop_again}
use Rattle.regress_engine_insn.specs.InsnViews.{fields}
use Rattle.regress_engine_code.specs.Standing.{program_of}
use Rattle.regress_engine_input.specs.Views.{direction_of, input_of}
use Rattle.regress_engine_search.proofs.InsnLemmas.{stands-as, again-successors, no-repetition}
use Rattle.regress_engine_copying.specs.StateOf.{state_of}
use Rattle.regress_engine_copying.specs.Held.{held, put}
use Rattle.regress_engine_copying.proofs.attempt.Attempt.end_iteration.Goals as goal

pub instruction-requires : goal.instruction-requires
instruction-requires g c =
    let fits = c.requires.suits.closed c.args.state.at (loop_again c.args.begin) c.requires.stands in (enter_loop fits.0, fits.1)

pub again-requires-clause-there : goal.again-requires-clause-there
again-requires-clause-there g c =
    let program = program_of c.args.self.now.program.now in
    let here = stands-as program c.args.begin _ _ c.in-EnterLoop.is c.instruction.ensures.stands in
    let fits = c.requires.suits.closed c.args.begin _ here in
    let there = fits.0 in
    let same = c.requires.whole.loops in
    omega (arith, there, same)

pub returns-in-EnterLoop : goal.returns-in-EnterLoop
returns-in-EnterLoop g c =
    let program = program_of c.args.self.now.program.now in
    let input = input_of (g.Input.InputIndexer.view c.args.self.now.input) in
    let here = stands-as program c.args.begin _ _ c.in-EnterLoop.is c.instruction.ensures.stands in
    on_ok_weaker c.again.result (λ is. is ∙ ap (λ ss. put ss (held c.args.stack.now))
    (sym (again-successors program input (direction_of c.args.stack.now.forward) (state_of c.args.state) c.args.begin (fields c.in-EnterLoop.repetition) here))) c.again.ensures

pub returns-in_default : goal.returns-in_default
returns-in_default g c =
    let program = program_of c.args.self.now.program.now in
    let fits = c.requires.suits.closed c.args.state.at (loop_again c.args.begin) c.requires.stands in
    absurd (no-repetition program (input_of (g.Input.InputIndexer.view c.args.self.now.input)) c.args.begin _ fits.0 fits.1 c.instruction.ensures.stands c.in_default.not-EnterLoop)
