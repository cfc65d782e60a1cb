-- What a table of answers tells.
use Rattle.std.specs.Prelude.{◌≡◌, ℕ, Bool, false, length, Option, Some, None, get_or, slice_get}
use Rattle.std.specs.Global.{Vec}
use Rattle.regress_engine_insn.specs.Instructions.{Program}
use Rattle.regress_engine_memory.specs.BitViews.{has}
use Rattle.regress_engine_memory.specs.declared.bits.Bits.{Bits}
use Rattle.regress_engine_answers.specs.declared.answers.Answers.{Answers}
use Rattle.regress_engine_answers.specs.declared.rows.Rows.{Rows}

-- a number is in one of some sets, if there is one
abbrev pub in_set : Option Bits → ℕ → Bool
in_set None n = false
in_set (Some bits) n = has bits n

-- it is told that runs from an address and an offset have an answer
abbrev pub told_by : Answers → (at o : ℕ) → Bool
told_by a at o = in_set (slice_get a.offsets.items at) o

-- it is told that one of the exits of the one-character loop at an address has an answer, behind at least one more character from an offset on
abbrev pub exits_by : Answers → (at o : ℕ) → Bool
exits_by a at o = in_set (slice_get a.exits.items at) o

-- what is kept at an index of a row, if there is one
abbrev pub in_row : Option (Vec (Option ℕ)) → ℕ → Option ℕ
in_row None n = None
in_row (Some row) n = get_or row.items n None

-- what is kept at an index of one of some rows
abbrev pub kept_in : Rows → (row index : ℕ) → Option ℕ
kept_in rows k n = in_row (slice_get rows.rows.items k) n

-- where it is kept that runs from an address and an offset end
abbrev pub ends_by : Answers → (at o : ℕ) → Option ℕ
ends_by a at o = kept_in a.ends at o

-- and runs from the exits of the one-character loop at an address behind at least one more character
abbrev pub exit_ends_by : Answers → (at o : ℕ) → Option ℕ
exit_ends_by a at o = kept_in a.exit_ends at o

-- it has room for each address of a program
pub record IsSized (program : Program) (a : Answers) : Type 0 where
  pub offsets : length a.offsets.items ≡ length program.instructions
  pub exits : length a.exits.items ≡ length program.instructions
  pub ends : length a.ends.rows.items ≡ length program.instructions
  pub exit_ends : length a.exit_ends.rows.items ≡ length program.instructions
