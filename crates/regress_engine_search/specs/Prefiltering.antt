-- Where a text goes on as a start predicate says.
use Rattle.std.specs.Prelude.{ℕ, Bool, true, false, List, Option, None, Some}
use Rattle.regress_engine_scanning.specs.Least.{IsLeast}
use Rattle.regress_engine_prefix.specs.Starts.{BeginsAs}
use Rattle.regress_engine_prefix.specs.declared.start.StartPredicate.{StartPredicate}
use Rattle.regress_engine_prefix.specs.declared.start.StartPredicate.TheVariants.{ByteSeq, ByteNear, StartAnchored}
use Rattle.regress_engine_prefix.specs.declared.start.StartPredicate.TheVariants as variant

-- the least offset from one on at which bytes go on as a start predicate says, or none
abbrev pub IsNextHit : StartPredicate → List ℕ → ℕ → Option ℕ → Type 0
IsNextHit start bytes from found = IsLeast (BeginsAs start bytes) from found

-- it is `StartAnchored`
abbrev pub is_anchored : StartPredicate → Bool
is_anchored StartAnchored = true
is_anchored _ = false

-- it speaks of bytes that may stand anywhere by the offset
abbrev pub is_near : StartPredicate → Bool
is_near (ByteNear _ _) = true
is_near (variant.WordStart _) = true
is_near _ = false

-- the bytes that are looked for as a sequence, if any are
abbrev pub literal_of : StartPredicate → Option (List ℕ)
literal_of (ByteSeq bytes) = Some bytes.items
literal_of _ = None
