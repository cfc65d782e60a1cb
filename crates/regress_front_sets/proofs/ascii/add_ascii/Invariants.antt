use Rattle.std.proofs.Common.{◌≡◌, ℕ, ◌||◌, ◌&&◌, nat_le, nat_lt}
use Rattle.regress_front_bytes.specs.Bitmaps.{ascii_bitmap_contains}
use Rattle.regress_front_sets.proofs.ascii.add_ascii.Given as goal

-- the characters so far are added
abbrev pub invariant-loop-point : goal.invariant-loop-point
invariant-loop-point l =
    (b : ℕ) → ascii_bitmap_contains l.bitmap b ≡ ascii_bitmap_contains l.fn.bitmap b || (nat_le l.fn.interval.first b && nat_lt b l.point)
