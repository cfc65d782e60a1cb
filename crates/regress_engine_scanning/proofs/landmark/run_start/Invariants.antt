use Rattle.std.proofs.Common.{◌≡◌, ℕ, ◌<◌, ◌≤◌, true, map, slice_get}
use Rattle.regress_meaning.specs.Meaning.{is_some_and}
use Rattle.regress_front_bytes.specs.Bitmaps.{byte_bitmap_contains}
use Rattle.regress_engine_scanning.proofs.landmark.run_start.Given as goal

-- all bytes from here on are of the set
abbrev pub invariant-loop-start : goal.invariant-loop-start
invariant-loop-start g l = record {
  low : l.from ≤ l.start;
  high : l.start ≤ l.to;
  all : (j : ℕ) → l.start ≤ j → j < l.to → is_some_and (slice_get (map g.U.Unit.number l.units) j) (byte_bitmap_contains l.run) ≡ true;
}

abbrev pub decreases-loop-start : goal.decreases-loop-start
decreases-loop-start g l = l.start
