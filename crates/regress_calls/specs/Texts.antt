-- Texts that are searched, and what a regex stands for in each.
use Rattle.std.specs.Prelude.{◌≡◌, ℕ, List, Option, Some, IfSome, option_map}
use Rattle.std.specs.Str.{IsAscii}
use Rattle.std.specs.declared.ops.Range.{Range}
use Rattle.regress_meaning.specs.Table.{Table}
use Rattle.regress_meaning.specs.Pattern.{Pattern}
use Rattle.regress_meaning.specs.Flags.{Options}
use Rattle.regress_meaning.specs.Matches.{Item}
use Rattle.regress_meaning.specs.Offsets.{Reading, offset, Begins}
use Rattle.regress_match.specs.Views.{ends}
use Rattle.regress_engine_input.specs.Views.{Kind, utf8, utf16, ucs2, reading_of_kind}
use Rattle.regress.specs.declared.api.Regex.{Regex}
use Rattle.regress.specs.Standing.{StandsFor, StandsInUnits}
use Rattle.regress_calls.specs.declared.text.Text.{Text}
use Rattle.regress_calls.specs.declared.text.Text.TheVariants.{Utf8, Ascii, Utf16, Ucs2}

-- the kind that a text is searched as
abbrev pub kind_of_text : Text → Kind
kind_of_text (Utf8 text) = utf8
kind_of_text (Ascii text) = utf8
kind_of_text (Utf16 units) = utf16
kind_of_text (Ucs2 units) = ucs2

-- its bytes or units
abbrev pub units_of_text : Text → List ℕ
units_of_text (Utf8 text) = text.now
units_of_text (Ascii text) = text.now
units_of_text (Utf16 units) = units.now
units_of_text (Ucs2 units) = units.now

-- how a text is read
abbrev pub reading_of_text : Text → Reading
reading_of_text text = reading_of_kind (kind_of_text text) (units_of_text text)

-- a text is what it is said to be: ASCII has no byte past it
abbrev pub IsOfItsKind : Text → Type 0
IsOfItsKind (Ascii text) = IsAscii text.now
IsOfItsKind _ = Unit {0}

-- The regex stands for the pattern in such a text: in bytes, or in 16-bit units.
abbrev pub StandsIn : Text → Regex → Table → Options → Pattern → Type 0
StandsIn (Utf8 text) r t o p = StandsFor r t o p
StandsIn (Ascii text) r t o p = StandsFor r t o p
StandsIn (Utf16 units) r t o p = StandsInUnits r t o p
StandsIn (Ucs2 units) r t o p = StandsInUnits r t o p

-- this is the range of the item, told in offsets
abbrev pub IsRangeOf : Reading → Item → Option (Range ℕ) → Type 0
IsRangeOf r i found = option_map ends found ≡ Some (offset r i.start, offset r i.end)

-- a search may begin at the end of the range, if there is one
abbrev pub EndsAtStart : Reading → Option (Range ℕ) → Type 0
EndsAtStart r found = IfSome found (λ range. (place : ℕ) × Begins r range.end place)
