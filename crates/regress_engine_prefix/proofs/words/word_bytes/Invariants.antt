use Rattle.std.proofs.Common.{◌≡◌, ℕ, true}
use Rattle.regress_meaning.specs.Class.{is_ascii_word}
use Rattle.regress_front_bytes.specs.Bitmaps.{byte_bitmap_contains}
use Rattle.regress_engine_prefix.proofs.words.word_bytes.Given as goal

-- the members so far are of words
abbrev pub invariant-loop-byte : goal.invariant-loop-byte
invariant-loop-byte l = (b : ℕ) → byte_bitmap_contains l.set b ≡ true → is_ascii_word b ≡ true
