use Rattle.std.proofs.Common.{◌≡◌, ℕ, ◌*◌, ◌&&◌, nat_le, nat_lt}
use Rattle.regress_front_bytes.specs.Bitmaps.{byte_bitmap_contains}
use Rattle.regress_engine_analysis.proofs.sets.inside_of_characters.Given as goal

-- the rows so far
abbrev pub invariant-loop-row : goal.invariant-loop-row
invariant-loop-row l = (b : ℕ) → byte_bitmap_contains l.bytes b ≡ nat_le 0x80 b && nat_lt b (l.row * 16)
