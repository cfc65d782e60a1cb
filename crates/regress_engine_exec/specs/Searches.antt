-- What an executor searches, and what it holds.
use Rattle.std.specs.Prelude.{◌≡◌, ℕ, Bool, List, Option, None, Some, length, map, is_some, option_map}
use Rattle.std.specs.declared.ops.Range.{Range}
use Rattle.regress_meaning.specs.Matches.{Item}
use Rattle.regress_engine_input.specs.Views.{View, input_of, reading_of}
use Rattle.regress_engine_insn.specs.Instructions.{Program}
use Rattle.regress_engine_code.specs.Standing.{program_of}
use Rattle.regress_engine_runs.specs.Items.{Finds}
use Rattle.regress_engine_runs.specs.States.{Marks}
use Rattle.regress_engine_search.specs.Answering.{IsOutcome}
use Rattle.regress_engine_search.specs.Search.{IsWritten, Search}
use Rattle.regress_engine_search.specs.StateViews.{marks_of}
use Rattle.regress_engine_search.specs.declared.budget.StepsLeft.{StepsLeft}
use Rattle.regress_engine_linear.specs.declared.testing.LinearTable.{LinearTable}
use Rattle.regress_engine_exec.specs.Counting.{CountsRunIn, CountsSearchIn}
use Rattle.regress_engine_exec.specs.Turned.{most_walked, told_steps}
use Rattle.regress_engine_exec.specs.declared.scratch.Scratch.{Scratch}
use Rattle.regress_engine_exec.specs.declared.search.Backtracker.{Backtracker}

-- what is searched
abbrev pub search_in : {I B : Type 0} {g : _} → Backtracker I B g → Search
search_in {g = g} e = record { compiled = e.context.program.now; view = g.shown e.context.input; searchable = e.context.searchable }

-- the program
abbrev pub program_in : {I B : Type 0} {g : _} → Backtracker I B g → Program
program_in e = program_of e.context.program.now

-- the groups that are held
abbrev pub groups_of : Scratch → List Marks
groups_of s = map marks_of s.memory.groups.items

-- the same by an executor
abbrev pub groups_in : {I B : Type 0} {g : _} → Backtracker I B g → List Marks
groups_in e = groups_of e.scratch

-- what its steps are counted against
abbrev pub budget_of : {I B : Type 0} {g : _} → Backtracker I B g → B
budget_of e = e.budget

-- how many steps one with a bound may still take
abbrev pub steps_of : {I : Type 0} {g : _} → Backtracker I StepsLeft g → ℕ
steps_of e = e.budget.0

-- whether it turns to a table where no more steps may be counted
abbrev pub turns_in : {I B : Type 0} {g : _} → Backtracker I B g → Bool
turns_in e = is_some e.turning

-- the table of its program, if it turns to one of the text
abbrev pub table_in : {I B : Type 0} {g : _} → Backtracker I B g → Option LinearTable
table_in e = option_map (λ t. t.table.now) e.turning

-- a search from an offset on finds this, or nothing
abbrev pub FindsIn : {I B : Type 0} {g : _} → (I → View) → Backtracker I B g → (at : ℕ) → Option Item → Type 0
FindsIn view e at = Finds (program_in e) (input_of (view e.context.input)) at

-- the run from an offset has this outcome
abbrev pub HasOutcome : {I B : Type 0} {g : _} → (I → View) → Backtracker I B g → (at : ℕ) → Option Item → Type 0
HasOutcome view e at = IsOutcome (program_in e) (input_of (view e.context.input)) at

-- what a search from an offset on finds is written to slots
abbrev pub WritesFound : {I B : Type 0} {g : _} → (I → View) → Backtracker I B g → (at : ℕ) → Option (Range ℕ) → (old new : List (Option (Range ℕ))) → Type 0
WritesFound view e at found old new = IsWritten (FindsIn view e at) (reading_of (view e.context.input)) found old new

-- and so is the outcome of the run from an offset
abbrev pub WritesOutcome : {I B : Type 0} {g : _} → (I → View) → Backtracker I B g → (at : ℕ) → Option (Range ℕ) → (old new : List (Option (Range ℕ))) → Type 0
WritesOutcome view e at found old new = IsWritten (HasOutcome view e at) (reading_of (view e.context.input)) found old new

-- how many steps its searches took by tables, with those that it will take to make that of the text, where it is not there yet
abbrev pub tabled_in : {I B : Type 0} {g : _} → Backtracker I B g → ℕ
tabled_in {g = g} e = elim e.turning [ None ↦ 0 | Some t ↦ told_steps (g.shown e.context.input) t ]

-- how many it takes at most to walk along what one search finds
abbrev pub walked_in : {I B : Type 0} {g : _} → Backtracker I B g → Option (ℕ × ℕ) → ℕ
walked_in {g = g} e found = most_walked (table_in e) (length (g.shown e.context.input).units) found

-- how many of these were taken
abbrev pub table_steps_of : {I B : Type 0} {g : _} → Backtracker I B g → ℕ
table_steps_of e = elim e.turning [ None ↦ 0 | Some t ↦ t.steps ]

-- a search from an offset on took no more steps than its runs take, counted against the budget, if that has a bound
abbrev pub SearchCounts : {I B : Type 0} {g : _} → (I → View) → (left : B → Option ℕ) → (at : ℕ) → (old new : Backtracker I B g) → Type 0
SearchCounts view left at old new = CountsSearchIn view old.context at (left (budget_of old)) (left (budget_of new))

-- and no more may be counted
abbrev pub SearchStops : {I B : Type 0} {g : _} → (I → View) → (left : B → Option ℕ) → (at : ℕ) → (old new : Backtracker I B g) → Type 0
SearchStops view left at old new = (left (budget_of new) ≡ Some 0) × SearchCounts view left at old new

-- the run from one offset took no more than it takes
abbrev pub RunCounts : {I B : Type 0} {g : _} → (I → View) → (left : B → Option ℕ) → (at : ℕ) → (old new : Backtracker I B g) → Type 0
RunCounts view left at old new = CountsRunIn view old.context at (left (budget_of old)) (left (budget_of new))

-- and no more may be counted
abbrev pub RunStops : {I B : Type 0} {g : _} → (I → View) → (left : B → Option ℕ) → (at : ℕ) → (old new : Backtracker I B g) → Type 0
RunStops view left at old new = (left (budget_of new) ≡ Some 0) × RunCounts view left at old new
