use Rattle.std.proofs.Common.{◌≡◌, ℕ, ◌<◌, true}
use Rattle.regress_meaning.specs.Class.{is_ascii_word}
use Rattle.regress_front_bytes.specs.Bitmaps.{byte_bitmap_contains}
use Rattle.regress_engine_prefix.proofs.words.are_of_words.Given as goal

-- those of the bytes so far that are members are of words
abbrev pub invariant-loop-byte : goal.invariant-loop-byte
invariant-loop-byte l = (b : ℕ) → b < l.byte → byte_bitmap_contains l.set b ≡ true → is_ascii_word b ≡ true
