-- Regexes that are linear, and how many steps are enough for their searches.
use Rattle.std.specs.Prelude.{◌≡◌, ℕ, ◌&&◌, Bool, true, Some, is_some}
use Rattle.regress_programs.specs.Turned.{may_turn}
use Rattle.regress_programs.specs.Tables.{byte_table_of, unit_table_of}
use Rattle.regress.specs.declared.api.Regex.{Regex}

-- both its programs have tables by which they are linear
abbrev pub is_linear : Regex → Bool
is_linear r = is_some (byte_table_of r.compiled) && is_some (unit_table_of r.compiled)

-- searches that may take so many steps turn to tables where they take more, in texts of so many bytes, and of so many 16-bit units
abbrev pub AreEnough : Regex → (units steps : ℕ) → Type 0
AreEnough r units steps = (may_turn (byte_table_of r.compiled) units (Some steps) ≡ true) × (may_turn (unit_table_of r.compiled) units (Some steps) ≡ true)
