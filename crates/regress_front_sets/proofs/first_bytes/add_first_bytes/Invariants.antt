use Rattle.std.proofs.Common.{◌≡◌, ◌*◌, ◌||◌, ◌&&◌, ℕ, nat_lt}
use Rattle.regress_front_bytes.specs.Bitmaps.{byte_bitmap_contains}
use Rattle.regress_front_sets.specs.FirstBytes.{begins_between}
use Rattle.regress_front_sets.proofs.first_bytes.add_first_bytes.Given as goal

-- the bytes of the rows so far
abbrev pub invariant-loop-row : goal.invariant-loop-row
invariant-loop-row l = (b : ℕ) → byte_bitmap_contains l.bitmap b ≡ (byte_bitmap_contains l.initial.bitmap b || (begins_between l.first l.last b && nat_lt b (l.row * 16)))
