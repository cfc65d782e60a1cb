use Rattle.std.proofs.Common.{◌≡◌, ◌∙◌, ℕ, Option, ap, subst, sym}
use Rattle.regress_engine_code.specs.Standing.{program_of}
use Rattle.regress_engine_input.specs.Views.{View, AreOfKind, reading_of}
use Rattle.regress_engine_insn.specs.Instructions.{Program}
use Rattle.regress_engine_runs.specs.Meets.{IsAtPlace}
use Rattle.regress_engine_attempt.specs.Attempts.{Remembers, world_of}
use Rattle.regress_engine_search.specs.Search.{IsSearchable}
use Rattle.regress_engine_attempt.proofs.RememberLemmas.{remembers-anyway}
use Rattle.regress_engine_exec.specs.Counting.{CountsSearch}
use Rattle.regress_engine_exec.proofs.TurnLemmas.{if-found, if-refused, search-spends}
use Rattle.regress_engine_exec.proofs.search.Backtracker.search.Goals as goal

pub first_from-requires-clause-so : goal.first_from-requires-clause-so
first_from-requires-clause-so g c =
    let self = c.search_by_tables.new.self in
    remembers-anyway (world_of self.context.program.now (g.Input.InputIndexer.view self.context.input)) self.remembered.failures (λ f. f.value)
    (subst (λ v. ∥ Remembers (world_of self.context.program.now v) self.remembered ∥₁) (g.met.Input.ExecutorInput.shows self.context.input) self.so)

-- what a search counts that counts nothing
counts-nothing : (program : Program) (v : View) (searchable : IsSearchable program v) (all : AreOfKind v.kind v.units) (at : ℕ) → IsAtPlace (reading_of v) at → (before after : Option ℕ)
    → after ≡ before → CountsSearch program v at before after
counts-nothing program v searchable all at place before after is = subst (CountsSearch program v at before) (sym is) (search-spends program v searchable all at place before)

pub returns-in-Some-clause-counted : goal.returns-in-Some-clause-counted
returns-in-Some-clause-counted g c =
    let self = c.args.self.now in
    let program = program_of self.context.program.now in
    let v = g.Input.InputIndexer.view self.context.input in
    let searchable = subst (IsSearchable program) (g.met.Input.ExecutorInput.shows self.context.input) self.context.searchable in
    counts-nothing program v searchable (g.met.Input.InputIndexer.are_of_kind self.context.input) c.args.offset c.requires (g.B.Budget.left self.budget)
    (g.B.Budget.left c.search_in_time.new.self.budget) (ap g.B.Budget.left c.search_in_time.ensures.budget)

pub returns-in-Some-search_by_tables-clause-counted : goal.returns-in-Some-search_by_tables-clause-counted
returns-in-Some-search_by_tables-clause-counted g c =
    let self = c.args.self.now in
    let program = program_of self.context.program.now in
    let v = g.Input.InputIndexer.view self.context.input in
    let searchable = subst (IsSearchable program) (g.met.Input.ExecutorInput.shows self.context.input) self.context.searchable in
    counts-nothing program v searchable (g.met.Input.InputIndexer.are_of_kind self.context.input) c.args.offset c.requires (g.B.Budget.left self.budget)
    (g.B.Budget.left c.search_by_tables.new.self.budget) (ap g.B.Budget.left (c.search_by_tables.ensures.budget ∙ c.search_in_time.ensures.budget))

pub returns-then-has_turned-clause-counted : goal.returns-then-has_turned-clause-counted
returns-then-has_turned-clause-counted g c =
    let self = c.args.self.now in
    let program = program_of self.context.program.now in
    let v = g.Input.InputIndexer.view self.context.input in
    let searchable = subst (IsSearchable program) (g.met.Input.ExecutorInput.shows self.context.input) self.context.searchable in
    if-found c.search_told.result
    (counts-nothing program v searchable (g.met.Input.InputIndexer.are_of_kind self.context.input) c.args.offset c.requires (g.B.Budget.left self.budget)
    (g.B.Budget.left c.search_told.new.self.budget) (ap g.B.Budget.left (c.search_told.ensures.budget ∙ c.search_by_tables.ensures.budget ∙ c.search_in_time.ensures.budget)))

pub returns-in_err-ended-clause-stopped : goal.returns-in_err-ended-clause-stopped
returns-in_err-ended-clause-stopped g c =
    if-refused _ c.from_residual-in_err-ended.result c.from_residual-in_err-ended.ensures.1 (λ e gives over. g.met.B.SearchBudget.refused e gives over)
