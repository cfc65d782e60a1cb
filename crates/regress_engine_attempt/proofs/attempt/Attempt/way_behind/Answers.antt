use Rattle.std.proofs.Common.{false}
use Rattle.regress_engine_code.specs.Standing.{program_of}
use Rattle.regress_engine_input.specs.Views.{input_of}
use Rattle.regress_engine_trying.proofs.WayLemmas.{way-first, way-second, way-here}
use Rattle.regress_engine_attempt.proofs.attempt.Attempt.way_behind.Goals as goal

pub returns-then-is_dead_behind : goal.returns-then-is_dead_behind
returns-then-is_dead_behind g c =
    let program = program_of c.args.self.now.program.now in
    let input = input_of (g.Input.InputIndexer.view c.args.self.now.input) in
    way-second program input false c.args.offset c.args.at c.args.at c.args.second c.requires.stands (c.is_dead_behind.ensures c.if-is_dead_behind.true)
    (way-here program input false c.args.offset c.args.at)

pub returns-then-is_dead_behind-2 : goal.returns-then-is_dead_behind-2
returns-then-is_dead_behind-2 g c =
    let program = program_of c.args.self.now.program.now in
    let input = input_of (g.Input.InputIndexer.view c.args.self.now.input) in
    way-first program input false c.args.offset c.args.at c.args.at c.args.second c.requires.stands (c.is_dead_behind-2.ensures c.if-is_dead_behind-2.true)
    (way-here program input false c.args.offset c.args.at)
