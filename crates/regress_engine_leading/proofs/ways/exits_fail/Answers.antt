use Rattle.std.proofs.Common.{sym, arith}
use Rattle.regress_engine_code.specs.Standing.{program_of}
use Rattle.regress_engine_search.proofs.PlaceLemmas.{can-read}
use Rattle.regress_engine_search.proofs.SearchLemmas.{search-less}
use Rattle.regress_engine_leading.proofs.ExitLemmas.{exit-here, exit-on, exit-end}
use Rattle.regress_engine_leading.proofs.ways.exits_fail.Goals as goal

pub exits-init : goal.exits-init
exits-init g c =
    exit-here (program_of c.args.program.now) (g.Input.InputIndexer.view c.args.input.now) (g.met.Input.InputIndexer.are_of_kind c.args.input.now) c.args.at c.args.near c.args.far c.requires.place

pub beside-requires : goal.beside-requires
beside-requires g c = can-read (g.Input.InputIndexer.view c.args.input.now) (g.met.Input.InputIndexer.are_of_kind c.args.input.now) c.exits.offset c.exits.invariant.place

pub exits-smaller : goal.exits-smaller
exits-smaller g c =
    search-less (program_of c.args.program.now) (g.Input.InputIndexer.view c.args.input.now) (g.met.Input.InputIndexer.are_of_kind c.args.input.now) c.exits.offset _ _
    c.exits.invariant.place (sym c.in-Some.ensures)

pub exits-preserved : goal.exits-preserved
exits-preserved g c =
    exit-on (program_of c.args.program.now) (g.Input.InputIndexer.view c.args.input.now) (g.met.Input.InputIndexer.are_of_kind c.args.input.now) c.args.at c.args.near c.args.far c.exits.offset _ _
    (sym c.in-Some.ensures) (λ e. absurd (grind arith)) (c.exit_fails.ensures c.if-not-exit_fails.false) c.exits.invariant

pub returns-then-offset-far : goal.returns-then-offset-far
returns-then-offset-far g c = λ yes.
    exit-end (program_of c.args.program.now) (g.Input.InputIndexer.view c.args.input.now) (g.met.Input.InputIndexer.are_of_kind c.args.input.now) c.args.at c.args.near c.args.far c.exits.offset
    (omega (arith, c.if-offset-far.true)) (c.exit_fails.ensures c.if-not-exit_fails.false) c.exits.invariant
