-- Where one byte stands right behind another.
use Rattle.std.specs.Prelude.{ℕ, ◌+◌, Bool, ◌&&◌, List, slice_get}
use Rattle.regress_meaning.specs.Meaning.{is_some_and}
use Rattle.regress_engine_scanning.specs.declared.byte_pair.BytePair.{BytePair}
use Rattle.regress_engine_scanning.specs.NibbleSets.{nibble_set_contains}
use Rattle.regress_engine_scanning.specs.Units.{AreAscii}

-- a byte of the first set stands at the offset, and right behind it one of the second
abbrev pub begins_pair : BytePair → List ℕ → ℕ → Bool
begins_pair pair bytes at =
    is_some_and (slice_get bytes at) (nibble_set_contains pair.first) && is_some_and (slice_get bytes (at + 1)) (nibble_set_contains pair.second)

-- each byte of both sets is below 0x80
abbrev pub IsLowPair : BytePair → Type 0
IsLowPair pair = AreAscii (nibble_set_contains pair.first) × AreAscii (nibble_set_contains pair.second)
