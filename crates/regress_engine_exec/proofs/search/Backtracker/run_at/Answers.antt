use Rattle.std.proofs.Common.{◌≡◌, ◌∙◌, ℕ, Option, ap, subst, sym}
use Rattle.regress_engine_code.specs.Standing.{program_of}
use Rattle.regress_engine_input.specs.Views.{View, reading_of}
use Rattle.regress_engine_insn.specs.Instructions.{Program}
use Rattle.regress_engine_runs.specs.Meets.{IsAtPlace}
use Rattle.regress_engine_search.specs.Search.{IsSearchable}
use Rattle.regress_engine_attempt.specs.Counting.{CountsRun}
use Rattle.regress_engine_attempt.specs.Attempts.{Remembers, world_of}
use Rattle.regress_engine_attempt.proofs.RememberLemmas.{remembers-anyway}
use Rattle.regress_engine_exec.proofs.TurnLemmas.{if-found, if-refused, run-spends}
use Rattle.regress_engine_exec.proofs.search.Backtracker.run_at.Goals as goal

pub run_from-requires-clause-so : goal.run_from-requires-clause-so
run_from-requires-clause-so g c =
    let self = c.run_by_tables.new.self in
    remembers-anyway (world_of self.context.program.now (g.Input.InputIndexer.view self.context.input)) self.remembered.failures (λ f. f.value)
    (subst (λ v. ∥ Remembers (world_of self.context.program.now v) self.remembered ∥₁) (g.met.Input.ExecutorInput.shows self.context.input) self.so)

-- what a run counts that counts nothing
counts-nothing : (program : Program) (v : View) (searchable : IsSearchable program v) (at : ℕ) → IsAtPlace (reading_of v) at → (before after : Option ℕ) → after ≡ before
    → CountsRun program v at before after
counts-nothing program v searchable at place before after is = subst (CountsRun program v at before) (sym is) (run-spends program v searchable at place before)

pub returns-in-Some-clause-counted : goal.returns-in-Some-clause-counted
returns-in-Some-clause-counted g c =
    let self = c.args.self.now in
    let program = program_of self.context.program.now in
    let v = g.Input.InputIndexer.view self.context.input in
    let searchable = subst (IsSearchable program) (g.met.Input.ExecutorInput.shows self.context.input) self.context.searchable in
    counts-nothing program v searchable c.args.offset c.requires (g.B.Budget.left self.budget) (g.B.Budget.left c.run_in_time.new.self.budget)
    (ap g.B.Budget.left c.run_in_time.ensures.budget)

pub returns-in-Some-run_by_tables-clause-counted : goal.returns-in-Some-run_by_tables-clause-counted
returns-in-Some-run_by_tables-clause-counted g c =
    let self = c.args.self.now in
    let program = program_of self.context.program.now in
    let v = g.Input.InputIndexer.view self.context.input in
    let searchable = subst (IsSearchable program) (g.met.Input.ExecutorInput.shows self.context.input) self.context.searchable in
    counts-nothing program v searchable c.args.offset c.requires (g.B.Budget.left self.budget) (g.B.Budget.left c.run_by_tables.new.self.budget)
    (ap g.B.Budget.left (c.run_by_tables.ensures.budget ∙ c.run_in_time.ensures.budget))

pub returns-then-has_turned-clause-counted : goal.returns-then-has_turned-clause-counted
returns-then-has_turned-clause-counted g c =
    let self = c.args.self.now in
    let program = program_of self.context.program.now in
    let v = g.Input.InputIndexer.view self.context.input in
    let searchable = subst (IsSearchable program) (g.met.Input.ExecutorInput.shows self.context.input) self.context.searchable in
    if-found c.run_told.result
    (counts-nothing program v searchable c.args.offset c.requires (g.B.Budget.left self.budget) (g.B.Budget.left c.run_told.new.self.budget)
    (ap g.B.Budget.left (c.run_told.ensures.budget ∙ c.run_by_tables.ensures.budget ∙ c.run_in_time.ensures.budget)))

pub returns-in_err-ended-clause-stopped : goal.returns-in_err-ended-clause-stopped
returns-in_err-ended-clause-stopped g c =
    if-refused _ c.from_residual-in_err-ended.result c.from_residual-in_err-ended.ensures.1 (λ e gives over. g.met.B.SearchBudget.refused e gives over)
