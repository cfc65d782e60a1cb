-- When another start predicate takes the place of one that tells first bytes.
use Rattle.std.specs.Prelude.{◌≡◌, ℕ, ◌<◌, ◌⊎◌, Bool, true, false, Option, Some}
use Rattle.regress_front_bytes.specs.Bitmaps.{byte_bitmap_contains}
use Rattle.regress_front_nodes.specs.Trees.{Tree}
use Rattle.regress_engine_scanning.specs.NibbleSets.{nibble_set_contains}
use Rattle.regress_engine_prefix.specs.Starts.{BeginsCharacters, IsStartOf, HitsBoundaries}
use Rattle.regress_engine_scanning.specs.declared.byte_pair.BytePair.{BytePair}
use Rattle.regress_engine_scanning.specs.declared.word_start.WordStart.{WordStart}
use Rattle.regress_engine_prefix.specs.declared.prefix.Prefix.{Prefix}
use Rattle.regress_engine_prefix.specs.declared.prefix.Prefix.TheVariants.{Pair}
use Rattle.regress_engine_prefix.specs.declared.start.StartPredicate.{StartPredicate}
use Rattle.regress_engine_prefix.specs.declared.start.StartPredicate.TheVariants.{ByteSet2, ByteSet3, ByteBracket}
use Rattle.regress_engine_prefix.specs.declared.start.StartPredicate.TheVariants as variant

-- the pair has the first and the second bytes that the prefix tells
abbrev pub TellsPair : BytePair → Prefix → Type 0
TellsPair pair (Pair first second) =
    ((b : ℕ) → b < 256 → nibble_set_contains pair.first b ≡ byte_bitmap_contains first b)
    × ((b : ℕ) → b < 256 → nibble_set_contains pair.second b ≡ byte_bitmap_contains second b)
TellsPair pair _ = ⊥

-- it is a set of two or more bytes
abbrev pub is_set : StartPredicate → Bool
is_set (ByteSet2 _) = true
is_set (ByteSet3 _) = true
is_set (ByteBracket _) = true
is_set _ = false

-- or it is a pair
abbrev pub is_set_or_pair : StartPredicate → Bool
is_set_or_pair (variant.BytePair _) = true
is_set_or_pair start = is_set start

-- it is the same predicate, or the one that is made of what was found, in place of one that passes
abbrev pub IsOr : {A : Type 0} → (StartPredicate → Bool) → (A → StartPredicate) → StartPredicate → Option A → StartPredicate → Type 0
IsOr {A} test make start found other = (other ≡ start) ⊎ ((a : A) × (found ≡ Some a) × (test start ≡ true) × (other ≡ make a))

-- it is the same predicate, or the pair in place of a set
abbrev pub IsOrPair : StartPredicate → Option BytePair → StartPredicate → Type 0
IsOrPair start pair other = IsOr is_set (λ p. variant.BytePair p) start pair other

-- it is the same predicate, or the start of a word in place of a set or a pair
abbrev pub IsOrWord : StartPredicate → Option WordStart → StartPredicate → Type 0
IsOrWord start word other = IsOr is_set_or_pair (λ w. variant.WordStart w) start word other

-- wherever the tree has an outcome a word begins so
abbrev pub BeginsWords : Tree → WordStart → Type 0
BeginsWords t word = IsStartOf (variant.WordStart word) t

-- wherever the tree has an outcome characters begin a word so
abbrev pub BeginsWordCharacters : Tree → WordStart → Type 0
BeginsWordCharacters t word = BeginsCharacters (variant.WordStart word) t

-- wherever a word begins so is a boundary of characters
abbrev pub StandAtBoundaries : WordStart → Type 0
StandAtBoundaries word = HitsBoundaries (variant.WordStart word)
