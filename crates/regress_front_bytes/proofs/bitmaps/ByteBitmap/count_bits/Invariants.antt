use Rattle.std.proofs.Common.{◌≡◌, ℕ, ◌*◌, ◌<◌, ◌≤◌, take, slice_index}
use Rattle.std.specs.List.{sum_by}
use Rattle.std.specs.Int.Count.{ones}
use Rattle.regress_front_bytes.proofs.bitmaps.ByteBitmap.count_bits.Given as goal

abbrev pub invariant-loop-row : goal.invariant-loop-row
invariant-loop-row l = record {
  counted : l.count ≡ sum_by ones (take l.row-index l.self.0);
  small : (k : ℕ) → k < l.row-index → slice_index l.self.0 k < 65536;
  bounded : l.count ≤ 16 * l.row-index;
}
