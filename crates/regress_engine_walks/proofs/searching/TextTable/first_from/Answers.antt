use Rattle.std.specs.Prelude.{map}
use Rattle.std.proofs.Common.{sym, subst, ◌∙◌, arith}
use Rattle.regress_meaning.specs.Meaning.{Forward}
use Rattle.regress_engine_code.specs.Standing.{program_of}
use Rattle.regress_engine_input.specs.Views.{input_of}
use Rattle.regress_engine_search.specs.Answering.{IsAnswer}
use Rattle.regress_engine_search.specs.Skipping.{Reaches, IsNextStart}
use Rattle.regress_engine_search.specs.StateViews.{marks_of}
use Rattle.regress_engine_search.proofs.PlaceLemmas.{can-read, next-place}
use Rattle.regress_engine_search.proofs.SearchLemmas.{search-found, search-none, search-on, search-less}
use Rattle.regress_engine_walks.specs.Searched.{StepsTo, from_start}
use Rattle.regress_engine_walks.proofs.searching.TextTable.first_from.Goals as goal

pub returns-in-Some-2-clause-found : goal.returns-in-Some-2-clause-found
returns-in-Some-2-clause-found g c =
    let context = c.args.context.now in
    let program = program_of context.program.now in
    let v = g.Input.InputIndexer.view context.input in
    let all = g.met.Input.InputIndexer.are_of_kind context.input in
    let there : Reaches program v c.places.from c.in-Some.start = subst (IsNextStart program v c.places.from) c.in-Some.is c.next_place.ensures.start in
    let groups = map marks_of c.run_from.new.groups.items in
    search-found program v all c.args.offset c.in-Some.start c.in-Some-2.end groups (there.on c.args.offset c.places.invariant.finds)
    (subst (λ x. IsAnswer program (input_of v) c.in-Some.start x groups) c.in-Some-2.is c.in_ok-end.ensures.answer)

pub beside-requires : goal.beside-requires
beside-requires g c =
    let context = c.args.context.now in
    let program = program_of context.program.now in
    let v = g.Input.InputIndexer.view context.input in
    let there : Reaches program v c.places.from c.in-Some.start = subst (IsNextStart program v c.places.from) c.in-Some.is c.next_place.ensures.start in
    can-read v (g.met.Input.InputIndexer.are_of_kind context.input) c.in-Some.start there.place

pub returns-in_default-beside-clause-found : goal.returns-in_default-beside-clause-found
returns-in_default-beside-clause-found g c =
    let context = c.args.context.now in
    let program = program_of context.program.now in
    let v = g.Input.InputIndexer.view context.input in
    let all = g.met.Input.InputIndexer.are_of_kind context.input in
    let there : Reaches program v c.places.from c.in-Some.start = subst (IsNextStart program v c.places.from) c.in-Some.is c.next_place.ensures.start in
    let groups = map marks_of c.run_from.new.groups.items in
    search-none program v all c.args.offset c.in-Some.start groups (there.on c.args.offset c.places.invariant.finds)
    (subst (λ x. IsAnswer program (input_of v) c.in-Some.start x groups) c.in_default-2.is c.in_ok-end.ensures.answer) (sym c.in_default-beside.ensures)

pub places-smaller : goal.places-smaller
places-smaller g c =
    let context = c.args.context.now in
    let program = program_of context.program.now in
    let v = g.Input.InputIndexer.view context.input in
    let all = g.met.Input.InputIndexer.are_of_kind context.input in
    let there : Reaches program v c.places.from c.in-Some.start = subst (IsNextStart program v c.places.from) c.in-Some.is c.next_place.ensures.start in
    let less = search-less program v all c.in-Some.start _ c.in-Some-beside.behind there.place (sym c.in-Some-beside.ensures) in
    let low = there.low in
    omega (arith, low, less)

pub places-preserved : goal.places-preserved
places-preserved g c =
    let context = c.args.context.now in
    let program = program_of context.program.now in
    let v = g.Input.InputIndexer.view context.input in
    let all = g.met.Input.InputIndexer.are_of_kind context.input in
    let there : Reaches program v c.places.from c.in-Some.start = subst (IsNextStart program v c.places.from) c.in-Some.is c.next_place.ensures.start in
    let groups = map marks_of c.run_from.new.groups.items in
    let answer = subst (λ x. IsAnswer program (input_of v) c.in-Some.start x groups) c.in_default-2.is c.in_ok-end.ensures.answer in
    record {
      finds = search-on program v all c.args.offset c.in-Some.start _ c.in-Some-beside.behind groups (there.on c.args.offset c.places.invariant.finds) answer (sym c.in-Some-beside.ensures);
      place = next-place v all Forward c.in-Some.start _ c.in-Some-beside.behind there.place (sym c.in-Some-beside.ensures);
      counted = subst (λ x. StepsTo c.args.table.now v c.places.steps c.run_from.new.steps (from_start c.in-Some.start x)) c.in_default-2.is c.in_ok-end.ensures.counted ∙ c.places.invariant.counted;
    }
