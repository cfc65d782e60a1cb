use Rattle.std.proofs.Common.{sym}
use Rattle.regress_engine_code.specs.Standing.{program_of}
use Rattle.regress_engine_search.proofs.PlaceLemmas.{can-read}
use Rattle.regress_engine_singles.proofs.LeadingLemmas.{passes-one}
use Rattle.regress_engine_leading.proofs.leading.passed_one.Goals as goal

pub beside-requires : goal.beside-requires
beside-requires g c = can-read (g.Input.InputIndexer.view c.args.input.now) (g.met.Input.InputIndexer.are_of_kind c.args.input.now) c.args.start c.requires.place

pub returns : goal.returns
returns g c =
    passes-one (program_of c.args.program.now) (g.Input.InputIndexer.view c.args.input.now) (g.met.Input.InputIndexer.are_of_kind c.args.input.now) c.args.start _ c.in_ok-behind.behind
    (c.fails.ensures c.if-not-fails.false) c.requires.place (sym c.in_ok-behind.ensures)
