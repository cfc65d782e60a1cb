use Rattle.std.specs.Prelude.{IfSome}
use Rattle.std.proofs.Common.{subst}
use Rattle.regress_match.specs.Views.{item_of}
use Rattle.regress_engine_input.specs.Views.{reading_of}
use Rattle.regress_engine_code.specs.Standing.{program_of}
use Rattle.regress_engine_search.specs.Search.{Search, IsItemAtPlaces, IsSearchable}
use Rattle.regress_engine_search.proofs.ProducerLemmas.{goes_on-place}
use Rattle.conformance_roads.proofs.told.told_matches.Goals as goal

pub loop-preserved : goal.loop-preserved
loop-preserved g c =
    let context = c.new-context.result in
    let v = g.Input.InputIndexer.view context.input in
    let searchable = subst (IsSearchable (program_of context.program.now)) (g.met.Input.ExecutorInput.shows context.input) context.searchable in
    let s : Search = record { compiled = context.program.now; view = v; searchable = searchable } in
    let inside = subst (λ o. IfSome o (λ m. IsItemAtPlaces (reading_of v) (item_of m))) c.in-Some-2.is c.in_ok-found.ensures.inside in
    goes_on-place s (g.met.Input.InputIndexer.are_of_kind context.input) (item_of c.in-Some-2.found) inside c.goes_on-next.result c.goes_on-next.ensures
