use Rattle.std.proofs.Common.{ap, ◌∙◌, subst, refl}
use Rattle.std.specs.Prelude.{map}
use Rattle.regress_match.specs.Views.{item_of}
use Rattle.regress_engine_code.specs.Standing.{program_of}
use Rattle.regress_engine_input.specs.Views.{input_of}
use Rattle.regress_engine_search.specs.Answering.{IsFound}
use Rattle.regress_engine_search.specs.Search.{IsSearchable}
use Rattle.regress_engine_search.specs.StateViews.{item_with, marks_of}
use Rattle.regress_engine_search.proofs.SearchLemmas.{found-inside, found-item}
use Rattle.conformance_roads.proofs.told.first_told.Goals as goal

pub returns : goal.returns
returns g c =
    let context = c.args.context.now in
    let program = program_of context.program.now in
    let v = g.Input.InputIndexer.view context.input in
    let groups = c.first_from.new.groups.items in
    let i = item_of c.in_ok-found-2.found in
    let found = subst (λ x. IsFound program (input_of v) c.args.offset x (map marks_of groups)) c.in-Some.is c.in_ok-found.ensures.found in
    record {
      inside = found-inside program v (subst (IsSearchable program) (g.met.Input.ExecutorInput.shows context.input) context.searchable) c.args.offset c.requires.place i
          (found-item program (input_of v) c.args.offset c.in-Some.start c.in-Some.end (map marks_of groups) i groups found refl
          (c.in_ok-found-2.ensures.item ∙ ap (item_with c.in-Some.start c.in-Some.end) c.deref.ensures.value));
    }
