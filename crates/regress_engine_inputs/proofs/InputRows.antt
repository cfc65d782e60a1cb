-- Rows: what stands beside an offset, by computing.
use Rattle.std.proofs.Common.{◌≡◌, ℕ, true, false, List, [], ◌∷◌, Option, Some, None, refl}
use Rattle.regress_meaning.specs.Meaning.{Forward, Backward}
use Rattle.regress_meaning.specs.Table.{Table}
use Rattle.regress_meaning.specs.TableParts.{table_of, small_parts}
use Rattle.regress_meaning.specs.Inputs.{utf16_next, utf8_next, utf16_input}
use Rattle.regress_meaning.specs.Steps.{splits, unless_split, same_units}

-- a, a pair (U+1F600), a low unit alone, a high unit alone, a high unit before a pair, b
abbrev mixed : List ℕ
mixed = 0x61 ∷ 0xD83D ∷ 0xDE00 ∷ 0xDE00 ∷ 0xD83D ∷ 0xD83D ∷ 0xDE00 ∷ 0x62 ∷ []

abbrev right : ℕ → Option (ℕ × ℕ)
right = utf16_next mixed Forward

abbrev left : ℕ → Option (ℕ × ℕ)
left = utf16_next mixed Backward

units-are-read : (right 0 ≡ Some (0x61, 1)) × (right 1 ≡ Some (0x1F600, 3)) × (right 3 ≡ Some (0xDE00, 4)) × (right 4 ≡ Some (0xD83D, 5)) × (right 5 ≡ Some (0x1F600, 7)) × (right 7 ≡ Some (0x62, 8)) × (right 8 ≡ None)
units-are-read = (refl, refl, refl, refl, refl, refl, refl)

units-are-read-back : (left 0 ≡ None) × (left 1 ≡ Some (0x61, 0)) × (left 3 ≡ Some (0x1F600, 1)) × (left 4 ≡ Some (0xDE00, 3)) × (left 5 ≡ Some (0xD83D, 4)) × (left 7 ≡ Some (0x1F600, 5)) × (left 8 ≡ Some (0x62, 7))
units-are-read-back = (refl, refl, refl, refl, refl, refl, refl)

-- inside a pair
pairs-are-found : (splits mixed 0 ≡ false) × (splits mixed 1 ≡ false) × (splits mixed 2 ≡ true) × (splits mixed 3 ≡ false) × (splits mixed 6 ≡ true) × (splits mixed 8 ≡ false)
pairs-are-found = (refl, refl, refl, refl, refl, refl)

-- 24, C2 A2, E2 82 AC, F0 9F 98 80: one to four bytes
abbrev bytes : List ℕ
bytes = 0x24 ∷ 0xC2 ∷ 0xA2 ∷ 0xE2 ∷ 0x82 ∷ 0xAC ∷ 0xF0 ∷ 0x9F ∷ 0x98 ∷ 0x80 ∷ []

abbrev on : ℕ → Option (ℕ × ℕ)
on = utf8_next bytes Forward

abbrev back : ℕ → Option (ℕ × ℕ)
back = utf8_next bytes Backward

bytes-are-read : (on 0 ≡ Some (0x24, 1)) × (on 1 ≡ Some (0xA2, 3)) × (on 3 ≡ Some (0x20AC, 6)) × (on 6 ≡ Some (0x1F600, 10)) × (on 10 ≡ None)
bytes-are-read = (refl, refl, refl, refl, refl)

bytes-are-read-back : (back 0 ≡ None) × (back 1 ≡ Some (0x24, 0)) × (back 3 ≡ Some (0xA2, 1)) × (back 6 ≡ Some (0x20AC, 3)) × (back 10 ≡ Some (0x1F600, 6))
bytes-are-read-back = (refl, refl, refl, refl, refl)

-- A group that took a lone high unit: the same unit stands in front of a pair's second half, and is not repeated there.
abbrev table : Table
table = table_of small_parts

abbrev lone : List ℕ
lone = 0xD83D ∷ 0xD83D ∷ 0xDE00 ∷ []

half-of-a-pair : (same_units (utf16_input table true lone) Forward 0 1 1 ≡ Some 2) × (unless_split lone (same_units (utf16_input table true lone) Forward 0 1 1) ≡ None)
half-of-a-pair = (refl, refl)
