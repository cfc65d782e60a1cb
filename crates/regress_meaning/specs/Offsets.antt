-- Places told as offsets in what holds the text: bytes of UTF-8 or ASCII, 16-bit units of UTF-16 or UCS-2.
use Rattle.std.specs.Prelude.{◌≡◌, ◌+◌, ◌<◌, ◌≤◌, ◌⊎◌, ℕ, ◌&&◌, List, [], ◌∷◌, length, take, sum_by, map, option_map, chars, nat_lt, if◌then◌else◌}
use Rattle.std.specs.Char.{len_utf8}
use Rattle.regress_meaning.specs.Tokens.{is_high, is_low, joined}
use Rattle.regress_meaning.specs.Matches.{Item}

-- a text, and how many units each code point of it takes
pub record Reading : Type 0 where
  pub points : List ℕ
  pub width : ℕ → ℕ

-- bytes of UTF-8
abbrev pub of_utf8 : List ℕ → Reading
of_utf8 bytes = record { points = chars bytes; width = len_utf8 }

-- bytes below 80
abbrev pub of_ascii : List ℕ → Reading
of_ascii bytes = record { points = bytes; width = λ c. 1 }

-- 16-bit units, each one character
abbrev pub of_ucs2 : List ℕ → Reading
of_ucs2 units = record { points = units; width = λ c. 1 }

-- a high unit before a low one is one character, any other unit is one alone
unfoldable pub characters : List ℕ → List ℕ
characters [] = []
characters (u ∷ []) = u ∷ []
characters (u ∷ v ∷ us) = if is_high u && is_low v then joined u v ∷ characters us else u ∷ characters (v ∷ us)

-- 16-bit units, pairs joined
abbrev pub of_utf16 : List ℕ → Reading
of_utf16 units = record { points = characters units; width = λ c. if nat_lt c 0x1_0000 then 1 else 2 }

-- how many units stand before a place
abbrev pub offset : Reading → ℕ → ℕ
offset r place = sum_by r.width (take place r.points)

-- a range of places told in offsets
abbrev pub offset_range : Reading → ℕ × ℕ → ℕ × ℕ
offset_range r range = (offset r range.0, offset r range.1)

-- Where a search begins that starts at an offset: at the place there, or past the last place.
abbrev pub Begins : Reading → ℕ → ℕ → Type 0
Begins r at place =
    ((place ≤ length r.points) × (offset r place ≡ at)) ⊎ ((place ≡ length r.points + 1) × (offset r (length r.points) < at))

-- an item told in offsets
abbrev pub told : Reading → Item → Item
told r i = record { start = offset r i.start; end = offset r i.end; groups = map (option_map (offset_range r)) i.groups }
