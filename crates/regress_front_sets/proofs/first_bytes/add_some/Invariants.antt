use Rattle.std.proofs.Common.{◌≡◌, ◌||◌, ◌&&◌, ℕ, nat_le, nat_lt}
use Rattle.regress_front_bytes.specs.Bitmaps.{byte_bitmap_contains}
use Rattle.regress_front_sets.specs.FirstBytes.{may_begin}
use Rattle.regress_front_sets.proofs.first_bytes.add_some.Given as goal

abbrev pub invariant-loop-byte : goal.invariant-loop-byte
invariant-loop-byte l = (b : ℕ) → byte_bitmap_contains l.bitmap b ≡ (byte_bitmap_contains l.initial.bitmap b || ((nat_le l.first b && nat_lt b l.byte) && may_begin b))
