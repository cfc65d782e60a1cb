use Rattle.std.proofs.Common.{false}
use Rattle.regress_engine_code.specs.Standing.{program_of}
use Rattle.regress_engine_input.specs.Views.{input_of}
use Rattle.regress_engine_leading.proofs.ComesLemmas.{comes-boundary}
use Rattle.regress_engine_leading.proofs.leading.behind_edge.Goals as goal

pub returns-then-insns-lt10 : goal.returns-then-insns-lt10
returns-then-insns-lt10 g c = comes-boundary (program_of c.args.program.now) (input_of (g.Input.InputIndexer.view c.args.input.now)) false c.args.start c.requires.first c.requires.edge

pub returns-in-None : goal.returns-in-None
returns-in-None g c = comes-boundary (program_of c.args.program.now) (input_of (g.Input.InputIndexer.view c.args.input.now)) false c.args.start c.requires.first c.requires.edge

pub returns-in_default : goal.returns-in_default
returns-in_default g c = comes-boundary (program_of c.args.program.now) (input_of (g.Input.InputIndexer.view c.args.input.now)) false c.args.start c.requires.first c.requires.edge
