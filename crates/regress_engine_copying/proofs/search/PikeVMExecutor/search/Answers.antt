use Rattle.std.specs.Prelude.{option_map}
use Rattle.std.proofs.Common.{[], Some, subst, arith}
use Rattle.regress_meaning.specs.Meaning.{Forward}
use Rattle.regress_engine_code.specs.Standing.{program_of}
use Rattle.regress_engine_input.specs.Views.{input_of}
use Rattle.regress_engine_search.specs.Answering.{IsAnswer}
use Rattle.regress_engine_search.specs.Search.{IsSearchable}
use Rattle.regress_engine_search.specs.Skipping.{Reaches, IsNextStart}
use Rattle.regress_engine_search.proofs.PlaceLemmas.{can-read, next-place}
use Rattle.regress_engine_search.proofs.SearchLemmas.{search-found, search-none, search-on, search-less}
use Rattle.regress_engine_copying.specs.StateOf.{groups_of}
use Rattle.regress_engine_copying.proofs.TryLemmas.{passed-some, passed-none}
use Rattle.regress_engine_copying.proofs.search.PikeVMExecutor.search.Goals as goal

pub invariant_of-attempt : goal.invariant_of-attempt
invariant_of-attempt g c =
    let context = c.args.self.now.context in
    let program = program_of context.program.now in
    let v = g.Input.InputIndexer.view context.input in
    let searchable = subst (IsSearchable program) (g.met.Input.ExecutorInput.shows context.input) context.searchable in
    let there : Reaches program v c.places.from c.in-Some.start = subst (IsNextStart program v c.places.from) c.in-Some.is c.next_start.ensures.start in
    record { ends = searchable.ends c.in-Some.start there.place }

pub run-requires-clause-reads : goal.run-requires-clause-reads
run-requires-clause-reads g c =
    let context = c.args.self.now.context in
    let program = program_of context.program.now in
    let v = g.Input.InputIndexer.view context.input in
    let searchable = subst (IsSearchable program) (g.met.Input.ExecutorInput.shows context.input) context.searchable in
    let there : Reaches program v c.places.from c.in-Some.start = subst (IsNextStart program v c.places.from) c.in-Some.is c.next_start.ensures.start in
    searchable.reads c.in-Some.start there.place

pub run-requires-clause-suits : goal.run-requires-clause-suits
run-requires-clause-suits g c =
    let context = c.args.self.now.context in
    let searchable = subst (IsSearchable (program_of context.program.now)) (g.met.Input.ExecutorInput.shows context.input) context.searchable in
    searchable.suits

pub returns-in_default-clause-found : goal.returns-in_default-clause-found
returns-in_default-clause-found g c =
    let context = c.args.self.now.context in
    let program = program_of context.program.now in
    let v = g.Input.InputIndexer.view context.input in
    subst (IsNextStart program v c.places.from) c.in_default.is c.next_start.ensures.start c.args.offset c.places.invariant.finds

pub returns-in-Some-2-clause-found : goal.returns-in-Some-2-clause-found
returns-in-Some-2-clause-found g c =
    let context = c.args.self.now.context in
    let program = program_of context.program.now in
    let v = g.Input.InputIndexer.view context.input in
    let all = g.met.Input.InputIndexer.are_of_kind context.input in
    let there : Reaches program v c.places.from c.in-Some.start = subst (IsNextStart program v c.places.from) c.in-Some.is c.next_start.ensures.start in
    search-found program v all c.args.offset c.in-Some.start c.in-Some-2.found.offset (groups_of (Some c.in-Some-2.found)) (there.on c.args.offset c.places.invariant.finds)
    (subst (λ x. IsAnswer program (input_of v) c.in-Some.start (option_map (λ s. s.offset) x) (groups_of x)) c.in-Some-2.is c.in_ok-found.ensures)

pub any-requires : goal.any-requires
any-requires g c =
    let context = c.args.self.now.context in
    let program = program_of context.program.now in
    let v = g.Input.InputIndexer.view context.input in
    let all = g.met.Input.InputIndexer.are_of_kind context.input in
    let there : Reaches program v c.places.from c.in-Some.start = subst (IsNextStart program v c.places.from) c.in-Some.is c.next_start.ensures.start in
    can-read v all c.in-Some.start there.place

pub returns-in_default-any-clause-found : goal.returns-in_default-any-clause-found
returns-in_default-any-clause-found g c =
    let context = c.args.self.now.context in
    let program = program_of context.program.now in
    let v = g.Input.InputIndexer.view context.input in
    let all = g.met.Input.InputIndexer.are_of_kind context.input in
    let there : Reaches program v c.places.from c.in-Some.start = subst (IsNextStart program v c.places.from) c.in-Some.is c.next_start.ensures.start in
    search-none program v all c.args.offset c.in-Some.start [] (there.on c.args.offset c.places.invariant.finds)
    (subst (λ x. IsAnswer program (input_of v) c.in-Some.start (option_map (λ s. s.offset) x) (groups_of x)) c.in_default-2.is c.in_ok-found.ensures) (passed-none _ c.in_default-any.ensures)

pub places-smaller : goal.places-smaller
places-smaller g c =
    let context = c.args.self.now.context in
    let program = program_of context.program.now in
    let v = g.Input.InputIndexer.view context.input in
    let all = g.met.Input.InputIndexer.are_of_kind context.input in
    let there : Reaches program v c.places.from c.in-Some.start = subst (IsNextStart program v c.places.from) c.in-Some.is c.next_start.ensures.start in
    let (at, next_is) = passed-some _ c.in-Some-any.behind c.in-Some-any.ensures in
    let less = search-less program v all c.in-Some.start at c.in-Some-any.behind there.place next_is in
    let low = there.low in
    omega (arith, low, less)

pub places-preserved : goal.places-preserved
places-preserved g c =
    let context = c.args.self.now.context in
    let program = program_of context.program.now in
    let v = g.Input.InputIndexer.view context.input in
    let all = g.met.Input.InputIndexer.are_of_kind context.input in
    let there : Reaches program v c.places.from c.in-Some.start = subst (IsNextStart program v c.places.from) c.in-Some.is c.next_start.ensures.start in
    let (at, next_is) = passed-some _ c.in-Some-any.behind c.in-Some-any.ensures in
    record {
      finds = search-on program v all c.args.offset c.in-Some.start at c.in-Some-any.behind [] (there.on c.args.offset c.places.invariant.finds)
          (subst (λ x. IsAnswer program (input_of v) c.in-Some.start (option_map (λ s. s.offset) x) (groups_of x)) c.in_default-2.is c.in_ok-found.ensures) next_is;
      place = next-place v all Forward c.in-Some.start at c.in-Some-any.behind there.place next_is;
    }
