-- What parts of tables hold that are Unicode's.
use Rattle.std.specs.Prelude.{◌≡◌, ℕ, Bool, ◌&&◌, nat_le, List, []}
use Rattle.std.specs.List.{AllZip}
use Rattle.regress_meaning.specs.Table.{last_code_point, code_points}
use Rattle.regress_meaning.specs.TableParts.{TableParts, in_intervals}
use Rattle.regress_front_tables.specs.declared.tables.law.TableError.{TableError}
use Rattle.regress_front_tables.specs.declared.tables.law.TableError.TheVariants.{Broken, OutOfMemory}
use Rattle.regress_front_tables.specs.Breaking.{IsFirstBroken}
use Rattle.ucd_sets.specs.declared.set.Set.TheVariants.{Binary}
use Rattle.ucd_sets.specs.declared.property.BinaryProperty.TheVariants.{IdStart, IdContinue}
use Rattle.ucd_sets.specs.Sets.{in_set}
use Rattle.regress_unicode.specs.Case.{fold_of, upper_of, moved, units}
use Rattle.regress_unicode.specs.Keys.{unicode_properties}
use Rattle.regress_unicode.specs.Sequences.{unicode_sequences}

-- the intervals hold the code points that pass the test
abbrev pub Hold : List (ℕ × ℕ) → (ℕ → Bool) → Type 0
Hold intervals test = (c : ℕ) → in_intervals intervals c ≡ (nat_le c last_code_point && test c)

-- the entry stands under the key, and holds what passes its test
abbrev pub IsHeld : List ℕ × List (ℕ × ℕ) → List ℕ × (ℕ → Bool) → Type 0
IsHeld e k = (e.0 ≡ k.0) × Hold e.1 k.1

-- under each key, in their order, stand the intervals of what passes its test
abbrev pub HoldAll : List (List ℕ × List (ℕ × ℕ)) → List (List ℕ × (ℕ → Bool)) → Type 0
HoldAll = AllZip IsHeld

-- The parts are those of Unicode's own table.
pub record IsUnicode (parts : TableParts) : Type 0 where
  pub fold : parts.fold ≡ moved fold_of code_points
  pub upper : parts.upper ≡ moved upper_of units
  pub id_start : Hold parts.id_start (in_set (Binary IdStart))
  pub id_continue : Hold parts.id_continue (in_set (Binary IdContinue))
  pub properties : HoldAll parts.properties unicode_properties
  pub sequences : parts.sequences ≡ unicode_sequences

-- The parts are those of Unicode's own table, without its properties.
pub record IsUnicodeCase (parts : TableParts) : Type 0 where
  pub fold : parts.fold ≡ moved fold_of code_points
  pub upper : parts.upper ≡ moved upper_of units
  pub id_start : Hold parts.id_start (in_set (Binary IdStart))
  pub id_continue : Hold parts.id_continue (in_set (Binary IdContinue))
  pub properties : parts.properties ≡ []
  pub sequences : parts.sequences ≡ []

-- Memory was refused, or Unicode's own parts break this law.
abbrev pub IsRefusal : TableError → Type 0
IsRefusal OutOfMemory = Unit {0}
IsRefusal (Broken law c) = (parts : TableParts) × (IsUnicode parts × IsFirstBroken law parts c)
