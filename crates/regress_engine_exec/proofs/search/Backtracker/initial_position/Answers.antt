use Rattle.std.proofs.Common.{nat_le, refl}
use Rattle.regress_engine_search.specs.Search.{Search}
use Rattle.regress_engine_search.proofs.ProducerLemmas.{shown-kind, read-starts, start-place}
use Rattle.regress_engine_exec.proofs.search.Backtracker.initial_position.Goals as goal

pub returns-clause-inside : goal.returns-clause-inside
returns-clause-inside g c =
    let context = c.args.self.now.context in
    let v = g.Input.InputIndexer.view context.input in
    let s : Search = record { compiled = context.program.now; view = g.Input.Shown.shown context.input; searchable = context.searchable } in
    let shows = g.met.Input.ExecutorInput.shows context.input in
    let kind = g.met.Input.InputIndexer.are_of_kind context.input in
    let starts = read-starts s v shows kind c.args.offset c.text_len.result (nat_le c.args.offset c.text_len.result) c.then_some.result c.text_len.ensures refl c.then_some.ensures in
    start-place s (shown-kind s v shows kind) c.args.offset c.requires.0 c.requires.1 c.then_some.result starts
