use Rattle.std.proofs.Common.{None, sym, subst, arith}
use Rattle.regress_meaning.specs.Meaning.{Forward}
use Rattle.regress_engine_code.specs.Standing.{program_of}
use Rattle.regress_engine_input.specs.Views.{input_of, reading_of}
use Rattle.regress_engine_runs.specs.Meets.{IsAtPlace}
use Rattle.regress_engine_search.specs.Answering.{IsAnswer}
use Rattle.regress_engine_search.specs.Search.{IsSearchable}
use Rattle.regress_engine_search.specs.Skipping.{Reaches, IsNextStart}
use Rattle.regress_engine_search.proofs.PlaceLemmas.{can-read, next-place}
use Rattle.regress_engine_search.proofs.SearchLemmas.{search-found, search-none, search-on, search-less}
use Rattle.regress_engine_search.proofs.SkipLemmas.{place-lies}
use Rattle.regress_engine_singles.specs.Passed.{PassesOver}
use Rattle.regress_engine_undo.specs.Held.{held}
use Rattle.regress_engine_leading.specs.Known.{IsKnown}
use Rattle.regress_engine_search.specs.Ending.{IfEnded}
use Rattle.regress_engine_exec.proofs.BeginLemmas.{way-comes}
use Rattle.regress_engine_exec.proofs.CountLemmas.{counts-first, counts-past, counts-over, counts-ends, counts-on, counted-answer}
use Rattle.regress_engine_exec.proofs.finding.first_from.Goals as goal

pub invariant_of-attempt : goal.invariant_of-attempt
invariant_of-attempt g c =
    let context = c.args.context.now in
    let program = program_of context.program.now in
    let v = g.Input.InputIndexer.view context.input in
    let there : Reaches program v c.places.from c.in-Some.start = subst (IsNextStart program v c.places.from) c.in-Some.is c.start_from.ensures.start in
    record { ends = context.searchable.ends c.in-Some.start (subst (λ x. IsAtPlace (reading_of x) c.in-Some.start) (sym (g.met.Input.ExecutorInput.shows context.input)) there.place) }

pub run_within-requires-clause-reads : goal.run_within-requires-clause-reads
run_within-requires-clause-reads g c =
    let context = c.args.context.now in
    let program = program_of context.program.now in
    let v = g.Input.InputIndexer.view context.input in
    let searchable = subst (IsSearchable program) (g.met.Input.ExecutorInput.shows context.input) context.searchable in
    let there : Reaches program v c.places.from c.in-Some.start = subst (IsNextStart program v c.places.from) c.in-Some.is c.start_from.ensures.start in
    searchable.reads c.in-Some.start there.place

pub run_within-requires-clause-suits : goal.run_within-requires-clause-suits
run_within-requires-clause-suits g c =
    let context = c.args.context.now in
    let searchable = subst (IsSearchable (program_of context.program.now)) (g.met.Input.ExecutorInput.shows context.input) context.searchable in
    searchable.suits

pub run_within-requires-clause-begun : goal.run_within-requires-clause-begun
run_within-requires-clause-begun g c =
    let context = c.args.context.now in
    way-comes (program_of context.program.now) (input_of (g.Input.InputIndexer.view context.input)) c.in-Some.start c.in-At.first
    (subst (IsKnown (program_of context.program.now) (g.Input.InputIndexer.view context.input) c.in-Some.start) c.in-At.is c.known_of.ensures.known)

pub returns-in_default-clause-found : goal.returns-in_default-clause-found
returns-in_default-clause-found g c =
    let context = c.args.context.now in
    let program = program_of context.program.now in
    let v = g.Input.InputIndexer.view context.input in
    subst (IsNextStart program v c.places.from) c.in_default.is c.start_from.ensures.start c.args.offset c.places.invariant.finds

pub returns-in-Some-found-clause-found : goal.returns-in-Some-found-clause-found
returns-in-Some-found-clause-found g c =
    let context = c.args.context.now in
    let program = program_of context.program.now in
    let v = g.Input.InputIndexer.view context.input in
    let all = g.met.Input.InputIndexer.are_of_kind context.input in
    let there : Reaches program v c.places.from c.in-Some.start = subst (IsNextStart program v c.places.from) c.in-Some.is c.start_from.ensures.start in
    search-found program v all c.args.offset c.in-Some.start c.in-Some-found.end (held c.run_within.new.memory).groups (there.on c.args.offset c.places.invariant.finds)
    (subst (λ x. IsAnswer program (input_of v) c.in-Some.start x (held c.run_within.new.memory).groups) c.in-Some-found.is
    (subst (λ e. IfEnded e (λ x. IsAnswer program (input_of v) c.in-Some.start x (held c.run_within.new.memory).groups)) c.in-With.is c.in_ok-found.ensures.answer))

pub beside-requires : goal.beside-requires
beside-requires g c =
    let context = c.args.context.now in
    let program = program_of context.program.now in
    let v = g.Input.InputIndexer.view context.input in
    let all = g.met.Input.InputIndexer.are_of_kind context.input in
    let there : Reaches program v c.places.from c.in-Some.start = subst (IsNextStart program v c.places.from) c.in-Some.is c.start_from.ensures.start in
    can-read v all c.in-Some.start there.place

pub returns-in_default-beside-clause-found : goal.returns-in_default-beside-clause-found
returns-in_default-beside-clause-found g c =
    let context = c.args.context.now in
    let program = program_of context.program.now in
    let v = g.Input.InputIndexer.view context.input in
    let all = g.met.Input.InputIndexer.are_of_kind context.input in
    let there : Reaches program v c.places.from c.in-Some.start = subst (IsNextStart program v c.places.from) c.in-Some.is c.start_from.ensures.start in
    search-none program v all c.args.offset c.in-Some.start (held c.run_within.new.memory).groups (there.on c.args.offset c.places.invariant.finds)
    (subst (λ x. IsAnswer program (input_of v) c.in-Some.start x (held c.run_within.new.memory).groups) c.in_default-found.is
    (subst (λ e. IfEnded e (λ x. IsAnswer program (input_of v) c.in-Some.start x (held c.run_within.new.memory).groups)) c.in-With.is c.in_ok-found.ensures.answer)) (sym c.in_default-beside.ensures)

pub places-smaller : goal.places-smaller
places-smaller g c =
    let context = c.args.context.now in
    let program = program_of context.program.now in
    let v = g.Input.InputIndexer.view context.input in
    let all = g.met.Input.InputIndexer.are_of_kind context.input in
    let there : Reaches program v c.places.from c.in-Some.start = subst (IsNextStart program v c.places.from) c.in-Some.is c.start_from.ensures.start in
    let less = search-less program v all c.in-Some.start _ c.in-Some-beside.behind there.place (sym c.in-Some-beside.ensures) in
    let low = there.low in
    omega (arith, low, less)

pub places-preserved : goal.places-preserved
places-preserved g c =
    let context = c.args.context.now in
    let program = program_of context.program.now in
    let v = g.Input.InputIndexer.view context.input in
    let all = g.met.Input.InputIndexer.are_of_kind context.input in
    let searchable = subst (IsSearchable program) (g.met.Input.ExecutorInput.shows context.input) context.searchable in
    let there : Reaches program v c.places.from c.in-Some.start = subst (IsNextStart program v c.places.from) c.in-Some.is c.start_from.ensures.start in
    let here = counts-past program v searchable all c.args.offset c.places.from c.in-Some.start _ _ c.places.invariant.place there.place there.low there.on c.places.invariant.counted in
    let answer = subst (λ x. IsAnswer program (input_of v) c.in-Some.start x (held c.run_within.new.memory).groups) c.in_default-found.is
    (subst (λ e. IfEnded e (λ x. IsAnswer program (input_of v) c.in-Some.start x (held c.run_within.new.memory).groups)) c.in-With.is c.in_ok-found.ensures.answer) in
    let (n, run, spends) = counted-answer program v c.in-Some.start None _ _ answer c.in_ok-found.ensures.counted in
    record {
      finds = search-on program v all c.args.offset c.in-Some.start _ c.in-Some-beside.behind (held c.run_within.new.memory).groups (there.on c.args.offset c.places.invariant.finds)
          answer (sym c.in-Some-beside.ensures);
      counted = counts-on program v c.args.offset c.in-Some.start _ _ _ n _ c.in-Some-beside.behind here run (sym c.in-Some-beside.ensures) spends;
      place = next-place v all Forward c.in-Some.start _ c.in-Some-beside.behind there.place (sym c.in-Some-beside.ensures);
      so = c.in_ok-found.ensures.so;
    }

pub known_of-requires : goal.known_of-requires
known_of-requires g c =
    let context = c.args.context.now in
    let program = program_of context.program.now in
    let v = g.Input.InputIndexer.view context.input in
    let there : Reaches program v c.places.from c.in-Some.start = subst (IsNextStart program v c.places.from) c.in-Some.is c.start_from.ensures.start in
    record { place = there.place }

pub places-smaller-in-Passed : goal.places-smaller-in-Passed
places-smaller-in-Passed g c =
    let context = c.args.context.now in
    let program = program_of context.program.now in
    let v = g.Input.InputIndexer.view context.input in
    let all = g.met.Input.InputIndexer.are_of_kind context.input in
    let there : Reaches program v c.places.from c.in-Some.start = subst (IsNextStart program v c.places.from) c.in-Some.is c.start_from.ensures.start in
    let passes : PassesOver program v c.in-Some.start c.in-Passed.past = subst (IsKnown program v c.in-Some.start) c.in-Passed.is c.known_of.ensures.known in
    let low = there.low in
    let further = passes.further in
    let inside = place-lies v all c.in-Passed.past passes.place in
    omega (arith, low, further, inside)

pub places-preserved-in-Passed : goal.places-preserved-in-Passed
places-preserved-in-Passed g c =
    let context = c.args.context.now in
    let program = program_of context.program.now in
    let v = g.Input.InputIndexer.view context.input in
    let all = g.met.Input.InputIndexer.are_of_kind context.input in
    let searchable = subst (IsSearchable program) (g.met.Input.ExecutorInput.shows context.input) context.searchable in
    let there : Reaches program v c.places.from c.in-Some.start = subst (IsNextStart program v c.places.from) c.in-Some.is c.start_from.ensures.start in
    let here = counts-past program v searchable all c.args.offset c.places.from c.in-Some.start _ _ c.places.invariant.place there.place there.low there.on c.places.invariant.counted in
    let passes : PassesOver program v c.in-Some.start c.in-Passed.past = subst (IsKnown program v c.in-Some.start) c.in-Passed.is c.known_of.ensures.known in
    let further = passes.further in
    record {
      finds = passes.on c.args.offset (there.on c.args.offset c.places.invariant.finds);
      place = passes.place;
      counted = counts-past program v searchable all c.args.offset c.in-Some.start c.in-Passed.past _ _ there.place passes.place (omega (arith, further)) passes.on here;
      so = c.places.invariant.so;
    }

pub places-init : goal.places-init
places-init g c =
    let context = c.args.context.now in
    let program = program_of context.program.now in
    let v = g.Input.InputIndexer.view context.input in
    let all = g.met.Input.InputIndexer.are_of_kind context.input in
    let searchable = subst (IsSearchable program) (g.met.Input.ExecutorInput.shows context.input) context.searchable in
    record { finds = λ i finds. finds; place = c.requires.place; counted = counts-first program v searchable all c.args.offset c.requires.place _; so = c.requires.so }

pub returns-in_default-clause-counted : goal.returns-in_default-clause-counted
returns-in_default-clause-counted g c =
    let context = c.args.context.now in
    let program = program_of context.program.now in
    let v = g.Input.InputIndexer.view context.input in
    counts-over program v c.args.offset c.places.from _ _ c.places.invariant.counted

pub returns-in-Some-found-clause-counted : goal.returns-in-Some-found-clause-counted
returns-in-Some-found-clause-counted g c =
    let context = c.args.context.now in
    let program = program_of context.program.now in
    let v = g.Input.InputIndexer.view context.input in
    let all = g.met.Input.InputIndexer.are_of_kind context.input in
    let searchable = subst (IsSearchable program) (g.met.Input.ExecutorInput.shows context.input) context.searchable in
    let there : Reaches program v c.places.from c.in-Some.start = subst (IsNextStart program v c.places.from) c.in-Some.is c.start_from.ensures.start in
    let here = counts-past program v searchable all c.args.offset c.places.from c.in-Some.start _ _ c.places.invariant.place there.place there.low there.on c.places.invariant.counted in
    let (n, r, run, spends) = c.in_ok-found.ensures.counted in
    counts-ends program v c.args.offset c.in-Some.start _ _ _ n r here run spends

pub returns-in_default-2-clause-counted : goal.returns-in_default-2-clause-counted
returns-in_default-2-clause-counted g c =
    let context = c.args.context.now in
    let program = program_of context.program.now in
    let v = g.Input.InputIndexer.view context.input in
    let all = g.met.Input.InputIndexer.are_of_kind context.input in
    let searchable = subst (IsSearchable program) (g.met.Input.ExecutorInput.shows context.input) context.searchable in
    let there : Reaches program v c.places.from c.in-Some.start = subst (IsNextStart program v c.places.from) c.in-Some.is c.start_from.ensures.start in
    let here = counts-past program v searchable all c.args.offset c.places.from c.in-Some.start _ _ c.places.invariant.place there.place there.low there.on c.places.invariant.counted in
    let (n, r, run, spends) = c.in_ok-found.ensures.counted in
    counts-ends program v c.args.offset c.in-Some.start _ _ _ n r here run spends

pub returns-in_default-beside-clause-counted : goal.returns-in_default-beside-clause-counted
returns-in_default-beside-clause-counted g c =
    let context = c.args.context.now in
    let program = program_of context.program.now in
    let v = g.Input.InputIndexer.view context.input in
    let all = g.met.Input.InputIndexer.are_of_kind context.input in
    let searchable = subst (IsSearchable program) (g.met.Input.ExecutorInput.shows context.input) context.searchable in
    let there : Reaches program v c.places.from c.in-Some.start = subst (IsNextStart program v c.places.from) c.in-Some.is c.start_from.ensures.start in
    let here = counts-past program v searchable all c.args.offset c.places.from c.in-Some.start _ _ c.places.invariant.place there.place there.low there.on c.places.invariant.counted in
    let (n, r, run, spends) = c.in_ok-found.ensures.counted in
    counts-ends program v c.args.offset c.in-Some.start _ _ _ n r here run spends
