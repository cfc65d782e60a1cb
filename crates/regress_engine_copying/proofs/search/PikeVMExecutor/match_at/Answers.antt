use Rattle.std.specs.Prelude.{option_map}
use Rattle.std.proofs.Common.{Some, ap, ◌∙◌, subst, refl}
use Rattle.regress_match.specs.Views.{item_of}
use Rattle.regress_engine_code.specs.Standing.{program_of}
use Rattle.regress_engine_input.specs.Views.{input_of}
use Rattle.regress_engine_search.specs.StateViews.{item_with}
use Rattle.regress_engine_search.specs.Answering.{IsAnswer}
use Rattle.regress_engine_search.specs.Search.{IsSearchable}
use Rattle.regress_engine_search.proofs.SearchLemmas.{outcome-inside, outcome-item}
use Rattle.regress_engine_copying.specs.StateOf.{groups_of}
use Rattle.regress_engine_copying.proofs.search.PikeVMExecutor.match_at.Goals as goal

pub invariant_of-attempt : goal.invariant_of-attempt
invariant_of-attempt g c =
    let context = c.args.self.now.context in
    let searchable = subst (IsSearchable (program_of context.program.now)) (g.met.Input.ExecutorInput.shows context.input) context.searchable in
    record { ends = searchable.ends c.args.offset c.requires }

pub run-requires-clause-suits : goal.run-requires-clause-suits
run-requires-clause-suits g c =
    let context = c.args.self.now.context in
    let searchable = subst (IsSearchable (program_of context.program.now)) (g.met.Input.ExecutorInput.shows context.input) context.searchable in
    searchable.suits

pub run-requires-clause-reads : goal.run-requires-clause-reads
run-requires-clause-reads g c =
    let context = c.args.self.now.context in
    let searchable = subst (IsSearchable (program_of context.program.now)) (g.met.Input.ExecutorInput.shows context.input) context.searchable in
    searchable.reads c.args.offset c.requires

pub returns-in_default-clause-outcome : goal.returns-in_default-clause-outcome
returns-in_default-clause-outcome g c =
    let program = program_of c.args.self.now.context.program.now in
    let input = input_of (g.Input.InputIndexer.view c.args.self.now.context.input) in
    subst (λ x. IsAnswer program input c.args.offset (option_map (λ s. s.offset) x) (groups_of x)) c.in_default.is c.in_ok-state.ensures

pub returns-clause-outcome : goal.returns-clause-outcome
returns-clause-outcome g c =
    let program = program_of c.args.self.now.context.program.now in
    let input = input_of (g.Input.InputIndexer.view c.args.self.now.context.input) in
    outcome-item program input c.args.offset c.in-Some.state.offset (groups_of (Some c.in-Some.state)) (item_of c.in_ok-found.found) c.in-Some.state.groups.items
    (subst (λ x. IsAnswer program input c.args.offset (option_map (λ s. s.offset) x) (groups_of x)) c.in-Some.is c.in_ok-state.ensures)
    refl (c.in_ok-found.ensures.item ∙ ap (item_with c.args.offset c.in-Some.state.offset) c.deref.ensures.value)

pub returns-clause-inside : goal.returns-clause-inside
returns-clause-inside g c =
    let context = c.args.self.now.context in
    outcome-inside (program_of context.program.now) (g.Input.InputIndexer.view context.input)
    (subst (IsSearchable (program_of context.program.now)) (g.met.Input.ExecutorInput.shows context.input) context.searchable)
    c.args.offset c.requires (item_of c.in_ok-found.found) (returns-clause-outcome g c)
