-- Where a word begins.
use Rattle.std.specs.Prelude.{ℕ, zero, suc, Bool, false, not, ◌&&◌, List, slice_get}
use Rattle.regress_meaning.specs.Meaning.{is_some_and}
use Rattle.regress_engine_scanning.specs.declared.word_start.WordStart.{WordStart}
use Rattle.regress_engine_scanning.specs.NibbleSets.{nibble_set_contains}
use Rattle.regress_engine_scanning.specs.Units.{AreAscii}

-- a byte that passes stands right before an offset
abbrev pub passes_before : (ℕ → Bool) → List ℕ → ℕ → Bool
passes_before test bytes zero = false
passes_before test bytes (suc at) = is_some_and (slice_get bytes at) test

-- a byte of the set stands at the offset, and none of a word in front of it
abbrev pub begins_word : WordStart → List ℕ → ℕ → Bool
begins_word word bytes at = is_some_and (slice_get bytes at) (nibble_set_contains word.first) && not (passes_before (nibble_set_contains word.word) bytes at)

-- each byte of both sets is below 0x80
abbrev pub IsLowWord : WordStart → Type 0
IsLowWord word = AreAscii (nibble_set_contains word.word) × AreAscii (nibble_set_contains word.first)
