use Rattle.std.proofs.Common.{◌≡◌, ℕ, ◌-◌, ◌<◌, ◌≤◌, slice_index}
use Rattle.regress_front_bytes.proofs.bitmaps.AsciiBitmap.inverted.Given as goal

abbrev pub invariant-loop-row : goal.invariant-loop-row
invariant-loop-row l = record {
  turned : (k : ℕ) → k < l.row-index → slice_index l.row-items k ≡ 255 - slice_index l.fn.self.0 k;
  small : (k : ℕ) → k < l.row-index → slice_index l.fn.self.0 k < 256;
  kept : (k : ℕ) → l.row-index ≤ k → slice_index l.row-items k ≡ slice_index l.fn.self.0 k;
}
