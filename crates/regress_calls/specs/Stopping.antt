-- How many steps a search may take, when those are too few, and how many are enough.
use Rattle.std.specs.Prelude.{◌≡◌, ◌≤◌, ℕ, List, Option, Some, None, IfSome, nat_lt, if◌then◌else◌}
use Rattle.regress_engine_input.specs.Views.{Kind, utf8, ascii, utf16, ucs2}
use Rattle.regress_engine_code.specs.declared.compiled.CompiledRegex.{CompiledRegex}
use Rattle.regress_engine_linear.specs.declared.testing.LinearTable.{LinearTable}
use Rattle.regress_programs.specs.declared.slots.Anchored.{Anchored}
use Rattle.regress_programs.specs.Counting.{Stops}
use Rattle.regress_programs.specs.Tables.{byte_table_of, unit_table_of}
use Rattle.regress_bounded.specs.Stopping.{seen_by}
use Rattle.regress.specs.declared.api.Regex.{Regex}
use Rattle.regress.specs.Linear.{AreEnough}
use Rattle.regress_calls.specs.Handles.{Content, OfSearch}
use Rattle.regress_calls.specs.Ranges.{unset}

-- the bound that a number of steps stands for: the greatest number there is stands for none
abbrev pub bound_of : ℕ → Option ℕ
bound_of steps = if nat_lt steps unset then Some steps else None

-- the program that a pattern has for texts of a kind
abbrev pub program_for : Kind → Regex → CompiledRegex
program_for utf8 r = r.compiled.byte_program
program_for ascii r = r.compiled.byte_program
program_for utf16 r = r.compiled.unit_program
program_for ucs2 r = r.compiled.unit_program

-- the table by which that program is linear, if there is one
abbrev pub table_for : Kind → Regex → Option LinearTable
table_for utf8 r = byte_table_of r.compiled
table_for ascii r = byte_table_of r.compiled
table_for utf16 r = unit_table_of r.compiled
table_for ucs2 r = unit_table_of r.compiled

-- A search is held that its bound stops: in such a text it may not turn to a table with so many steps, and the runs of its pattern from a
-- start on, or the one run there, take as many steps as the bound allows, or more.
abbrev pub IsStopped : Content → Anchored → Kind → List ℕ → (start : ℕ) → Type 0
IsStopped (OfSearch r (Some steps)) anchored kind units start =
    Stops (table_for kind r) anchored (program_for kind r) (seen_by (program_for kind r) kind units) start (Some steps)
IsStopped _ anchored kind units start = ⊥

-- A number of steps stands for the least bound that is enough for searches in texts of so many bytes or 16-bit units; so it is in shorter
-- ones. It stands for none where none is enough.
pub record IsEnough (r : Regex) (units steps : ℕ) : Type 0 where
  pub enough : IfSome (bound_of steps) (λ bound. (length n : ℕ) → length ≤ units → bound ≤ n → AreEnough r length n)
  pub least : IfSome (bound_of steps) (λ bound. (n : ℕ) → AreEnough r units n → bound ≤ n)
  pub none : bound_of steps ≡ None → (n : ℕ) → AreEnough r units n → ⊥
