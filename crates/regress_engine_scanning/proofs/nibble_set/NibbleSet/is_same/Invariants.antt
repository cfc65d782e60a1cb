use Rattle.std.proofs.Common.{◌≡◌, ℕ, ◌<◌}
use Rattle.regress_front_bytes.specs.Bitmaps.{byte_bitmap_contains}
use Rattle.regress_engine_scanning.specs.NibbleSets.{nibble_set_contains}
use Rattle.regress_engine_scanning.proofs.nibble_set.NibbleSet.is_same.Given as goal

-- the bytes so far are members of both or of none
abbrev pub invariant-loop-byte : goal.invariant-loop-byte
invariant-loop-byte l = (b : ℕ) → b < l.byte → nibble_set_contains l.self b ≡ byte_bitmap_contains l.set b
