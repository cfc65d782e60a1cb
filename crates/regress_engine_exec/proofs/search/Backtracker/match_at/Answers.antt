use Rattle.std.proofs.Common.{ap, ◌∙◌, subst, refl}
use Rattle.regress_match.specs.Views.{item_of}
use Rattle.regress_engine_code.specs.Standing.{program_of}
use Rattle.regress_engine_input.specs.Views.{input_of}
use Rattle.regress_engine_search.specs.StateViews.{item_with}
use Rattle.regress_engine_search.specs.Answering.{IsAnswer}
use Rattle.regress_engine_undo.specs.Held.{held}
use Rattle.regress_engine_search.specs.Search.{IsSearchable}
use Rattle.regress_engine_search.proofs.SearchLemmas.{outcome-inside, outcome-item}
use Rattle.regress_engine_exec.proofs.search.Backtracker.match_at.Goals as goal

pub returns-in_default-clause-outcome : goal.returns-in_default-clause-outcome
returns-in_default-clause-outcome g c =
    let program = program_of c.args.self.now.context.program.now in
    let input = input_of (g.Input.InputIndexer.view c.args.self.now.context.input) in
    subst (λ x. IsAnswer program input c.args.offset x (held c.run_at.new.self.scratch.memory).groups) c.in_default.is c.in_ok-end.ensures.answer

pub returns-clause-outcome : goal.returns-clause-outcome
returns-clause-outcome g c =
    let program = program_of c.args.self.now.context.program.now in
    let input = input_of (g.Input.InputIndexer.view c.args.self.now.context.input) in
    outcome-item program input c.args.offset c.in-Some.end (held c.run_at.new.self.scratch.memory).groups (item_of c.in_ok-found.found) c.run_at.new.self.scratch.memory.groups.items
    (subst (λ x. IsAnswer program input c.args.offset x (held c.run_at.new.self.scratch.memory).groups) c.in-Some.is c.in_ok-end.ensures.answer)
    refl (c.in_ok-found.ensures.item ∙ ap (item_with c.args.offset c.in-Some.end) c.deref.ensures.value)

pub returns-clause-inside : goal.returns-clause-inside
returns-clause-inside g c =
    let context = c.args.self.now.context in
    outcome-inside (program_of context.program.now) (g.Input.InputIndexer.view context.input)
    (subst (IsSearchable (program_of context.program.now)) (g.met.Input.ExecutorInput.shows context.input) context.searchable)
    c.args.offset c.requires (item_of c.in_ok-found.found) (returns-clause-outcome g c)
