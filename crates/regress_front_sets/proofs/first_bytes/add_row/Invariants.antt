use Rattle.std.proofs.Common.{◌≡◌, ℕ, ◌+◌, ◌*◌, ◌||◌, ◌&&◌, nat_le, nat_lt}
use Rattle.regress_front_bytes.specs.Bitmaps.{byte_bitmap_contains}
use Rattle.regress_front_sets.proofs.first_bytes.add_row.Given as goal

-- the bytes so far
abbrev pub invariant-loop-place : goal.invariant-loop-place
invariant-loop-place l = (b : ℕ) → byte_bitmap_contains l.bytes b ≡ byte_bitmap_contains l.fn.bytes b || (nat_le (l.row * 16) b && nat_lt b (l.row * 16 + l.place))
