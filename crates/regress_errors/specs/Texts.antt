-- Patterns as texts in UTF-8.
use Rattle.std.specs.Prelude.{ℕ, List, map, take, sum_by, nat_lt, if◌then◌else◌, encode_utf8_all}
use lib.Utf8.{scalar}
use Rattle.regress_meaning.specs.Flags.{is_unicode}
use Rattle.regress_front_core.specs.FlagWords.{options}
use Rattle.regress_front_core.specs.declared.flags.Flags.{Flags}
use Rattle.regress_pattern_units.specs.PatternUnits.{pattern_points}

-- the character that stands for a code point in a text: itself, and U+FFFD for a surrogate
abbrev pub shown : ℕ → ℕ
shown c = if scalar c then c else 0xFFFD

-- code points as a text in UTF-8
abbrev pub shown_text : List ℕ → List ℕ
shown_text points = encode_utf8_all (map shown points)

-- how many 16-bit units a code point takes
abbrev pub unit_width : ℕ → ℕ
unit_width c = if nat_lt c 0x1_0000 then 1 else 2

-- how many 16-bit units stand before a place
abbrev pub units_before : List ℕ → ℕ → ℕ
units_before points place = sum_by unit_width (take place points)

-- the code points that the units of a pattern stand for under flags
abbrev pub points_of : Flags → List ℕ → List ℕ
points_of flags units = pattern_points (is_unicode (options flags)) units
