use Rattle.std.proofs.Common.{not, ap, ◌∙◌, arith}
use Rattle.regress_engine_code.specs.Standing.{program_of}
use Rattle.regress_engine_insn.specs.InsnViews.{instruction}
use Rattle.regress_engine_advance.proofs.ReadLemmas.{none-is}
use Rattle.regress_engine_leading.proofs.ExitLemmas.{stops-there}
use Rattle.regress_engine_leading.proofs.ways.stops.Goals as goal

pub returns-then-most-left : goal.returns-then-most-left
returns-then-most-left g c = λ yes comes.
    let more = c.if-most-left.true in
    let left = c.units_ahead-left.ensures in
    stops-there (program_of c.args.program.now) (g.Input.InputIndexer.view c.args.input.now) (g.met.Input.InputIndexer.are_of_kind c.args.input.now) (instruction c.args.class.now) c.requires.class
    c.args.most c.args.near c.args.far c.requires.far (omega (arith, more, left)) comes

pub returns : goal.returns
returns g c = λ yes comes groups. none-is _ (c.is_none.ensures ∙ ap not yes) ∙ c.class_ahead.ensures groups
