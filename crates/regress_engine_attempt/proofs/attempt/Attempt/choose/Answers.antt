use Rattle.std.proofs.Common.{true, refl}
use Rattle.regress_engine_code.specs.Standing.{program_of}
use Rattle.regress_engine_input.specs.Views.{input_of}
use Rattle.regress_engine_undo.specs.Held.{held}
use Rattle.regress_engine_undo.proofs.DispatchLemmas.{second-dead, step-on}
use Rattle.regress_engine_undo.proofs.TurnLemmas.{loop-there}
use Rattle.regress_engine_attempt.proofs.attempt.Attempt.choose.Goals as goal

pub loop_data-entered-requires : goal.loop_data-entered-requires
loop_data-entered-requires g c =
    loop-there (program_of c.args.self.now.program.now) (g.Input.InputIndexer.view c.args.self.now.input) c.in-Some.turn.begin _ (held c.args.memory.now) c.requires.suits c.in-Some.ensures.begins c.requires.sound

pub returns-then-is_dead-clause-leads : goal.returns-then-is_dead-clause-leads
returns-then-is_dead-clause-leads g c =
    let program = program_of c.args.self.now.program.now in
    let input = input_of (g.Input.InputIndexer.view c.args.self.now.input) in
    second-dead program input c.args.spot.now (held c.args.memory.now) c.args.second c.requires.stands (c.is_dead.ensures c.if-is_dead.true)

pub returns-clause-leads : goal.returns-clause-leads
returns-clause-leads g c =
    let program = program_of c.args.self.now.program.now in
    let input = input_of (g.Input.InputIndexer.view c.args.self.now.input) in
    step-on program input _ c.args.spot.now _ (held c.args.memory.now) _ true c.requires.stands refl (c.in_ok-fork.ensures.leads program input)
