use Rattle.std.proofs.Common.{◌≡◌, ℕ, ◌*◌, ◌&&◌, nat_lt}
use Rattle.regress_front_bytes.specs.Bitmaps.{ascii_bitmap_contains, byte_bitmap_contains}
use Rattle.regress_engine_analysis.proofs.sets.members.Given as goal

-- the members of the rows so far
abbrev pub invariant-loop-row : goal.invariant-loop-row
invariant-loop-row l = (b : ℕ) → byte_bitmap_contains l.bytes b ≡ nat_lt b (l.row * 16) && ascii_bitmap_contains l.bitmap b
