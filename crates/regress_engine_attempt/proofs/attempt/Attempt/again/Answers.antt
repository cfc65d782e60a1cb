use Rattle.std.proofs.Common.{arith}
use Rattle.regress_engine_insn.specs.Instructions.{enter_loop, loop_again}
use Rattle.regress_engine_insn.specs.InsnViews.{fields}
use Rattle.regress_engine_code.specs.Standing.{program_of}
use Rattle.regress_engine_input.specs.Views.{input_of}
use Rattle.regress_engine_search.proofs.InsnLemmas.{stands-as, no-repetition}
use Rattle.regress_engine_undo.specs.Held.{held}
use Rattle.regress_engine_undo.proofs.MemoryLemmas.{ok-then}
use Rattle.regress_engine_undo.proofs.DispatchLemmas.{again-on-step}
use Rattle.regress_engine_attempt.proofs.attempt.Attempt.again.Goals as goal

pub instruction-requires : goal.instruction-requires
instruction-requires g c =
    let fits = c.requires.suits.closed c.args.spot.now.at (loop_again c.args.begin) c.requires.stands in (enter_loop fits.0, fits.1)

pub again-requires-clause-there : goal.again-requires-clause-there
again-requires-clause-there g c =
    let program = program_of c.args.self.now.program.now in
    let here = stands-as program c.args.begin _ _ c.in-EnterLoop.is c.instruction.ensures.stands in
    let fits = c.requires.suits.closed c.args.begin _ here in
    let there = fits.0 in
    let same = c.requires.sound.loops in
    omega (arith, there, same)

pub returns-in-EnterLoop-clause-leads : goal.returns-in-EnterLoop-clause-leads
returns-in-EnterLoop-clause-leads g c =
    let program = program_of c.args.self.now.program.now in
    let input = input_of (g.Input.InputIndexer.view c.args.self.now.input) in
    let here = stands-as program c.args.begin _ _ c.in-EnterLoop.is c.instruction.ensures.stands in
    ok-then c.again.result _ _ (λ going on. again-on-step program input c.args.spot.now _ (held c.args.memory.now) _ going c.args.begin (fields c.in-EnterLoop.repetition) c.requires.stands here (on program input c.is_dead-dead.ensures)) c.again.ensures.leads

pub returns-in_default : goal.returns-in_default
returns-in_default g c =
    let program = program_of c.args.self.now.program.now in
    let fits = c.requires.suits.closed c.args.spot.now.at (loop_again c.args.begin) c.requires.stands in
    absurd (no-repetition program (input_of (g.Input.InputIndexer.view c.args.self.now.input)) c.args.begin _ fits.0 fits.1 c.instruction.ensures.stands c.in_default.not-EnterLoop)
