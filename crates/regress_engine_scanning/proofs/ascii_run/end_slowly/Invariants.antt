use Rattle.std.proofs.Common.{◌≡◌, ℕ, ◌<◌, ◌≤◌, true, map, slice_index}
use Rattle.regress_front_bytes.specs.Bitmaps.{ascii_bitmap_contains}
use Rattle.regress_engine_scanning.proofs.ascii_run.end_slowly.Given as goal

-- members so far
abbrev pub invariant-loop-index : goal.invariant-loop-index
invariant-loop-index g l = (k : ℕ) → l.from ≤ k → k < l.index → ascii_bitmap_contains l.set (slice_index (map g.U.Unit.number l.units) k) ≡ true
