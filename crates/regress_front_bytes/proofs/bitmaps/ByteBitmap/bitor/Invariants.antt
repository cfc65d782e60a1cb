use Rattle.std.proofs.Common.{◌≡◌, ℕ, ◌<◌, ◌≤◌, length, slice_index, bit_or}
use Rattle.regress_front_bytes.proofs.bitmaps.ByteBitmap.bitor.Given as goal

abbrev pub invariant-loop-i : goal.invariant-loop-i
invariant-loop-i l = record {
  joined : (k : ℕ) → k < l.i → slice_index l.self.0 k ≡ bit_or (slice_index l.fn.self.0 k) (slice_index l.rhs.0 k);
  kept : (k : ℕ) → l.i ≤ k → slice_index l.self.0 k ≡ slice_index l.fn.self.0 k;
  long : length l.self.0 ≡ 16;
}
