-- What an executor sees of a text, by the kind of its input.
use Rattle.std.specs.Prelude.{suc, ◌-◌, ℕ, ◌+◌, ◌<◌, ◌≤◌, Bool, true, false, List, length, drop, Option, Some, None, slice_get, nat_le, option_and_then, All, if◌then◌else◌}
use Rattle.std.specs.Str.{IsUtf8, IsAscii, IsCharBoundary}
use Rattle.regress_meaning.specs.Table.{Table}
use Rattle.regress_meaning.specs.Meaning.{Direction, Forward, Backward}
use Rattle.regress_meaning.specs.Offsets.{Reading, of_utf8, of_ascii, of_utf16, of_ucs2}
use Rattle.regress_meaning.specs.Inputs.{Input, unit_before, utf8_input, ascii_input, utf16_input, ucs2_input}
use Rattle.regress_meaning.specs.Steps.{only_if, same_units, unless_split}

-- The four kinds: bytes of UTF-8, bytes of ASCII, 16-bit units with pairs joined, 16-bit units each one character.
pub data Kind : Type 0 where
  utf8 : Kind
  ascii : Kind
  utf16 : Kind
  ucs2 : Kind

-- what an input shows: its kind, the bytes or units of its text, the table and the mode
pub record View : Type 0 where
  pub kind : Kind
  pub units : List ℕ
  pub table : Table
  pub unicode : Bool

-- the direction of reading, by whether it is forward
abbrev pub direction_of : Bool → Direction
direction_of forward = if forward then Forward else Backward

-- units of a kind are bytes
abbrev pub are_bytes : Kind → Bool
are_bytes utf8 = true
are_bytes ascii = true
are_bytes utf16 = false
are_bytes ucs2 = false

-- units as a text of the kind has them
abbrev pub AreOfKind : Kind → List ℕ → Type 0
AreOfKind utf8 units = IsUtf8 units
AreOfKind ascii units = IsAscii units
AreOfKind utf16 units = All (λ u. u < 0x1_0000) units
AreOfKind ucs2 units = All (λ u. u < 0x1_0000) units

-- the input that the definitions speak of
abbrev pub input_of_kind : Kind → Table → Bool → List ℕ → Input
input_of_kind utf8 table unicode units = utf8_input table unicode units
input_of_kind ascii table unicode units = ascii_input table unicode units
input_of_kind utf16 table unicode units = utf16_input table unicode units
input_of_kind ucs2 table unicode units = ucs2_input table unicode units

-- the same, of all that an input shows
abbrev pub input_of : View → Input
input_of v = input_of_kind v.kind v.table v.unicode v.units

-- the text, with the width of each of its code points
abbrev pub reading_of_kind : Kind → List ℕ → Reading
reading_of_kind utf8 units = of_utf8 units
reading_of_kind ascii units = of_ascii units
reading_of_kind utf16 units = of_utf16 units
reading_of_kind ucs2 units = of_ucs2 units

-- the same, of all that an input shows
abbrev pub reading_of : View → Reading
reading_of v = reading_of_kind v.kind v.units

-- Characters may be read at an offset: in UTF-8 where one begins or the text ends, else anywhere in the text.
abbrev pub IsReadable : Kind → List ℕ → ℕ → Type 0
IsReadable utf8 units o = IsCharBoundary units o
IsReadable ascii units o = o ≤ length units
IsReadable utf16 units o = o ≤ length units
IsReadable ucs2 units o = o ≤ length units

-- the same, of all that an input shows
abbrev pub CanRead : View → ℕ → Type 0
CanRead v o = IsReadable v.kind v.units o

-- an offset lies in the text
abbrev pub LiesIn : View → ℕ → Type 0
LiesIn v o = o ≤ length v.units

-- a read that found nothing stays where it is
abbrev pub behind : ℕ → Option (ℕ × ℕ) → ℕ
behind o None = o
behind o (Some x) = x.1

-- the unit beside an offset
abbrev pub unit_beside : List ℕ → Direction → ℕ → Option ℕ
unit_beside units Forward o = slice_get units o
unit_beside units Backward o = unit_before units o

-- the offset past the unit beside one
abbrev pub past_unit : Direction → ℕ → ℕ
past_unit Forward o = suc o
past_unit Backward o = o - 1

-- what is found in bytes, and over units nothing
abbrev pub in_bytes : {A : Type 0} → Kind → Option A → Option A
in_bytes kind found = if are_bytes kind then found else None

-- what is found in 16-bit units, and over bytes nothing
abbrev pub in_units : {A : Type 0} → Kind → Option A → Option A
in_units kind found = if are_bytes kind then None else found

-- an offset so many units on, or none past the end of the text
abbrev pub moved_right : View → ℕ → ℕ → Option ℕ
moved_right v o n = only_if (nat_le (o + n) (length v.units)) (o + n)

-- what is found in the bytes from an offset on, told as an offset
abbrev pub found_from : View → (List ℕ → Option ℕ) → ℕ → Option ℕ
found_from v find o = in_bytes v.kind (option_and_then (moved_right v o) (find (drop o v.units)))

-- an offset, where over UTF-16 it has to lie outside a pair
abbrev pub outside_pairs : Kind → List ℕ → Option ℕ → Option ℕ
outside_pairs utf16 units o = unless_split units o
outside_pairs _ units o = o

-- the units from one offset on up to another stand beside a third, and end between characters: the offset behind them
abbrev pub units_repeated : View → Direction → ℕ → ℕ → ℕ → Option ℕ
units_repeated v dir a b o = outside_pairs v.kind v.units (same_units (input_of v) dir a b o)
