-- What an engine sees of a text: its bytes or units, and the code point on each side of an offset.
use Rattle.std.specs.Prelude.{◌≡◌, ℕ, zero, suc, ◌+◌, ◌-◌, ◌*◌, ◌%◌, ◌≤◌, Bool, not, ◌&&◌, List, length, Option, Some, None, if◌then◌else◌, slice_get, get_or, nat_lt, nat_le, option_map, All}
use Rattle.regress_meaning.specs.Table.{Table}
use Rattle.regress_meaning.specs.TableParts.{is_code_point}
use Rattle.regress_meaning.specs.Meaning.{Direction, Forward, Backward, Context}
use Rattle.regress_meaning.specs.Tokens.{is_high, is_low, joined}
use Rattle.regress_meaning.specs.Offsets.{Reading, offset}
use Rattle.regress_meaning.specs.Laws.{OffsetsRise}

-- The bytes or units of a text, the code point beside each offset with the offset behind it, the table and the mode.
pub record Input : Type 0 where
  pub units : List ℕ
  pub next : Direction → ℕ → Option (ℕ × ℕ)
  pub table : Table
  pub unicode : Bool

-- ---- each unit is one character

-- the unit beside an offset
abbrev pub single_next : List ℕ → Direction → ℕ → Option (ℕ × ℕ)
single_next units Forward o = option_map (λ c. (c, suc o)) (slice_get units o)
single_next units Backward zero = None
single_next units Backward (suc o) = option_map (λ c. (c, o)) (slice_get units o)

-- ---- units of UTF-16: a high unit before a low one is one character, any other unit is one alone

-- the character that begins with the unit u at o, by the unit behind it
abbrev pub pair_right : ℕ → ℕ → Option ℕ → ℕ × ℕ
pair_right o u None = (u, suc o)
pair_right o u (Some v) = if is_high u && is_low v then (joined u v, suc (suc o)) else (u, suc o)

-- the character that ends with the unit v at o, by the unit before it
abbrev pub pair_left : ℕ → ℕ → Option ℕ → ℕ × ℕ
pair_left o v None = (v, o)
pair_left o v (Some u) = if is_high u && is_low v then (joined u v, o - 1) else (v, o)

-- the unit before an offset
abbrev pub unit_before : List ℕ → ℕ → Option ℕ
unit_before units zero = None
unit_before units (suc o) = slice_get units o

-- the character beside an offset of units of UTF-16
abbrev pub utf16_next : List ℕ → Direction → ℕ → Option (ℕ × ℕ)
utf16_next units Forward o = option_map (λ u. pair_right o u (slice_get units (suc o))) (slice_get units o)
utf16_next units Backward zero = None
utf16_next units Backward (suc o) = option_map (λ v. pair_left o v (unit_before units o)) (slice_get units o)

-- ---- bytes of UTF-8

-- the character of two bytes
abbrev pub of_two : ℕ → ℕ → ℕ
of_two w x = w % 32 * 64 + x % 64

-- the character of three bytes
abbrev pub of_three : ℕ → ℕ → ℕ → ℕ
of_three w x y = (w % 16 * 64 + x % 64) * 64 + y % 64

-- the character of four bytes
abbrev pub of_four : ℕ → ℕ → ℕ → ℕ → ℕ
of_four w x y z = ((w % 8 * 64 + x % 64) * 64 + y % 64) * 64 + z % 64

-- the byte is not the first of a character
abbrev pub is_continuation : ℕ → Bool
is_continuation b = nat_le 0x80 b && nat_lt b 0xC0

-- the character that begins with these bytes, and how many it takes
abbrev pub bytes_right : ℕ → ℕ → ℕ → ℕ → ℕ × ℕ
bytes_right w x y z = if nat_lt w 0x80 then (w, 1) else if nat_lt w 0xE0 then (of_two w x, 2) else if nat_lt w 0xF0 then (of_three w x y, 3) else (of_four w x y z, 4)

-- the character that ends with these bytes, and how many it takes
abbrev pub bytes_left : ℕ → ℕ → ℕ → ℕ → ℕ × ℕ
bytes_left w x y z = if nat_lt z 0x80 then (z, 1) else if not (is_continuation y) then (of_two y z, 2) else if not (is_continuation x) then (of_three x y z, 3) else (of_four w x y z, 4)

-- a character, and the offset so many units on
abbrev pub onto_right : ℕ → ℕ × ℕ → ℕ × ℕ
onto_right o x = (x.0, o + x.1)

-- a character, and the offset so many units back
abbrev pub onto_left : ℕ → ℕ × ℕ → ℕ × ℕ
onto_left o x = (x.0, o - x.1)

-- the byte at an offset, 0 past the end
abbrev pub byte_at : List ℕ → ℕ → ℕ
byte_at bytes o = get_or bytes o 0

-- the character beside an offset of UTF-8
abbrev pub utf8_next : List ℕ → Direction → ℕ → Option (ℕ × ℕ)
utf8_next bytes Forward o =
    option_map (λ w. onto_right o (bytes_right w (byte_at bytes (o + 1)) (byte_at bytes (o + 2)) (byte_at bytes (o + 3)))) (slice_get bytes o)
utf8_next bytes Backward zero = None
utf8_next bytes Backward (suc o) =
    option_map (λ z. onto_left (suc o) (bytes_left (byte_at bytes (o - 3)) (byte_at bytes (o - 2)) (byte_at bytes (o - 1)) z)) (slice_get bytes o)

-- ---- the four inputs

-- bytes, each one character
abbrev pub ascii_input : Table → Bool → List ℕ → Input
ascii_input table unicode bytes = record { units = bytes; next = single_next bytes; table = table; unicode = unicode }

-- 16-bit units, each one character
abbrev pub ucs2_input : Table → Bool → List ℕ → Input
ucs2_input table unicode units = record { units = units; next = single_next units; table = table; unicode = unicode }

-- 16-bit units, pairs joined
abbrev pub utf16_input : Table → Bool → List ℕ → Input
utf16_input table unicode units = record { units = units; next = utf16_next units; table = table; unicode = unicode }

-- bytes of UTF-8
abbrev pub utf8_input : Table → Bool → List ℕ → Input
utf8_input table unicode bytes = record { units = bytes; next = utf8_next bytes; table = table; unicode = unicode }

-- ---- an input for a text

-- the code point beside a place, and the place behind it
abbrev pub neighbour : List ℕ → Direction → ℕ → Option (ℕ × ℕ)
neighbour points Forward p = option_map (λ c. (c, suc p)) (slice_get points p)
neighbour points Backward zero = None
neighbour points Backward (suc p) = option_map (λ c. (c, p)) (slice_get points p)

-- a code point and a place, the place told as an offset
abbrev pub point_told : Reading → ℕ × ℕ → ℕ × ℕ
point_told reading x = (x.0, offset reading x.1)

-- An input tells the code points of a reading, at the offset of each place.
pub record Tells (reading : Reading) (input : Input) : Type 0 where
  pub next : (dir : Direction) (p : ℕ) → p ≤ length reading.points
      → input.next dir (offset reading p) ≡ option_map (point_told reading) (neighbour reading.points dir p)
  pub rise : OffsetsRise reading
  -- and these are code points
  pub points : All is_code_point reading.points

-- what holds for the whole pattern
abbrev pub context_of : Reading → Input → Context
context_of reading input = record { text = reading.points; table = input.table; unicode = input.unicode }
