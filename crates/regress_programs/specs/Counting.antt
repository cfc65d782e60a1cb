-- How many steps one search with a program counts.
use Rattle.std.specs.Prelude.{◌≡◌, ℕ, Option, Some, false, length}
use Rattle.regress_engine_exec.specs.Counting.{CountsRun, CountsSearch}
use Rattle.regress_engine_exec.specs.Turned.{may_turn}
use Rattle.regress_engine_code.specs.Standing.{program_of}
use Rattle.regress_engine_input.specs.Views.{View}
use Rattle.regress_engine_linear.specs.declared.testing.LinearTable.{LinearTable}
use Rattle.regress_engine_code.specs.declared.compiled.CompiledRegex.{CompiledRegex}
use Rattle.regress_programs.specs.declared.slots.Anchored.{Anchored}
use Rattle.regress_programs.specs.declared.slots.Anchored.TheVariants.{No, Yes}

-- From so many steps that may be counted to so many, if there is a bound, no more were counted than the runs of a search from an
-- offset take; or than the run there takes, where the search is anchored.
abbrev pub Counts : Anchored → CompiledRegex → View → (at : ℕ) → (before after : Option ℕ) → Type 0
Counts No compiled v at before after = CountsSearch (program_of compiled) v at before after
Counts Yes compiled v at before after = CountsRun (program_of compiled) v at before after

-- A search that may count so many steps stops: it does not turn to a table of the text, and no fewer steps than it may count are counted.
abbrev pub Stops : Option LinearTable → Anchored → CompiledRegex → View → (at : ℕ) → (left : Option ℕ) → Type 0
Stops table anchored compiled v at left = (may_turn table (length v.units) left ≡ false) × Counts anchored compiled v at left (Some 0)
