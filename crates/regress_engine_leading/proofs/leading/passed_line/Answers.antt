use Rattle.std.proofs.Common.{sym, ◌∙◌}
use Rattle.regress_engine_code.specs.Standing.{program_of}
use Rattle.regress_engine_search.proofs.PlaceLemmas.{can-read}
use Rattle.regress_engine_search.proofs.SearchLemmas.{search-less}
use Rattle.regress_engine_singles.proofs.LineLemmas.{in-line-here, in-line-on, passes-line}
use Rattle.regress_engine_leading.proofs.leading.passed_line.Goals as goal

pub places-init : goal.places-init
places-init g c =
    in-line-here (g.Input.InputIndexer.view c.args.input.now) (g.met.Input.InputIndexer.are_of_kind c.args.input.now) (program_of c.args.program.now) c.args.start
    c.requires.place c.requires.dead

pub beside-requires : goal.beside-requires
beside-requires g c = can-read (g.Input.InputIndexer.view c.args.input.now) (g.met.Input.InputIndexer.are_of_kind c.args.input.now) c.places.at c.places.invariant.place

pub places-smaller : goal.places-smaller
places-smaller g c =
    search-less (program_of c.args.program.now) (g.Input.InputIndexer.view c.args.input.now) (g.met.Input.InputIndexer.are_of_kind c.args.input.now) c.places.at _ _
    c.places.invariant.place (sym c.in-Some.ensures)

pub places-preserved : goal.places-preserved
places-preserved g c =
    in-line-on (g.Input.InputIndexer.view c.args.input.now) (g.met.Input.InputIndexer.are_of_kind c.args.input.now) (program_of c.args.program.now) c.args.start c.requires.first
    c.places.at _ _ c.places.invariant (sym c.in-Some.ensures) (sym c.is_line_terminator.ensures ∙ c.if-is_line_terminator.false)

pub returns-then-is_line_terminator : goal.returns-then-is_line_terminator
returns-then-is_line_terminator g c =
    passes-line (g.Input.InputIndexer.view c.args.input.now) (g.met.Input.InputIndexer.are_of_kind c.args.input.now) (program_of c.args.program.now) c.args.start
    c.places.at _ _ c.places.invariant (sym c.in-Some.ensures)
