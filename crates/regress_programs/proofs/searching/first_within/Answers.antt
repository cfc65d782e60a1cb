use Rattle.std.specs.Prelude.{IfErr}
use Rattle.std.proofs.Common.{◌≡◌, ℕ, Option, Some, IfOk, IfSome, option_map, sym, ◌∙◌, subst}
use Rattle.regress_meaning.specs.Offsets.{Begins}
use Rattle.regress_match.specs.GroupViews.{names_of_match}
use Rattle.regress_match.specs.Views.{item_of}
use Rattle.regress_engine_code.specs.declared.compiled.CompiledRegex.{CompiledRegex}
use Rattle.regress_engine_code.specs.Standing.{names_of, target_of}
use Rattle.regress_engine_input.specs.Views.{View, reading_of}
use Rattle.regress_engine_search.specs.Search.{IsItemAtPlaces}
use Rattle.regress_engine_exec.specs.Searches.{budget_of, turns_in}
use Rattle.regress_programs.specs.Counting.{Counts}
use Rattle.regress_programs.specs.Filling.{first_told}
use Rattle.regress_programs.specs.Programs.{IsLaidOutFrom}
use Rattle.regress_programs.proofs.SlotLemmas.{stops-as_given}
use Rattle.regress_programs.proofs.searching.first_within.Goals as goal

pub first_of-requires-clause-start : goal.first_of-requires-clause-start
first_of-requires-clause-start g c =
    let context = c.with_budget-executor.result.context in
    let shown : g.Input.InputIndexer.view context.input ≡ g.Input.InputIndexer.view c.args.input =
    sym (g.met.Input.ExecutorInput.shows context.input) ∙ c.with_budget-executor.ensures.text in
    subst (λ v. (place : ℕ) × Begins (reading_of v) c.args.start place) (sym shown) c.requires.start

pub returns-clause-of_tree : goal.returns-clause-of_tree
returns-clause-of_tree g c = λ n t laid place begins.
    let context = c.with_budget-executor.result.context in
    let shown : g.Input.InputIndexer.view context.input ≡ g.Input.InputIndexer.view c.args.input =
    sym (g.met.Input.ExecutorInput.shows context.input) ∙ c.with_budget-executor.ensures.text in
    let same : context.program.now ≡ c.args.program.now = c.with_budget-executor.ensures.program in
    let told = c.first_of.ensures.of_tree n t (subst (λ p. IsLaidOutFrom (target_of p) n t) (sym same) laid) place
    (subst (λ v. Begins (reading_of v) c.args.start place) (sym shown) begins) in
    subst (λ (x : CompiledRegex × View). IfOk c.first_of.result (λ found. option_map item_of found ≡ first_told c.args.anchored x.0 (reading_of x.1) n t place))
    (λ i. (same i, shown i)) told

pub returns-clause-inside : goal.returns-clause-inside
returns-clause-inside g c =
    let context = c.with_budget-executor.result.context in
    let shown : g.Input.InputIndexer.view context.input ≡ g.Input.InputIndexer.view c.args.input =
    sym (g.met.Input.ExecutorInput.shows context.input) ∙ c.with_budget-executor.ensures.text in
    subst (λ v. IfOk c.first_of.result (λ found. IfSome found (λ m. IsItemAtPlaces (reading_of v) (item_of m)))) shown c.first_of.ensures.inside

pub returns-clause-named : goal.returns-clause-named
returns-clause-named g c =
    subst (λ (p : CompiledRegex). IfOk c.first_of.result (λ found. IfSome found (λ m. names_of_match m ≡ names_of p))) c.with_budget-executor.ensures.program c.first_of.ensures.named

pub returns-clause-stopped : goal.returns-clause-stopped
returns-clause-stopped g c =
    let executor = c.with_budget-executor.result in
    let shown : g.Input.InputIndexer.view executor.context.input ≡ g.Input.InputIndexer.view c.args.input =
    sym (g.met.Input.ExecutorInput.shows executor.context.input) ∙ c.with_budget-executor.ensures.text in
    let same : executor.context.program.now ≡ c.args.program.now = c.with_budget-executor.ensures.program in
    let left = g.B.Budget.left in
    stops-as_given c.first_of.result g.B.SearchBudget.is_over (turns_in executor) _ c.with_budget-executor.ensures.turns (budget_of executor) c.args.budget
    c.with_budget-executor.ensures.budget
    (λ b. Counts c.args.anchored c.args.program.now (g.Input.InputIndexer.view c.args.input) c.args.start (left b) (Some 0)) c.first_of.ensures.never
    (subst (λ (x : CompiledRegex × View). IfErr c.first_of.result (λ e. g.B.SearchBudget.is_over e → Counts c.args.anchored x.0 x.1 c.args.start (left (budget_of executor)) (Some 0)))
    (λ i. (same i, shown i)) c.first_of.ensures.stopped)
