use Rattle.std.proofs.Common.{◌≡◌, ℕ, ◌<◌, ◌≤◌, true}
use Rattle.regress_front_bytes.specs.Bitmaps.{byte_bitmap_contains}
use Rattle.regress_engine_prefix.proofs.first_bytes.with_continuations.Given as goal

abbrev pub invariant-loop-byte : goal.invariant-loop-byte
invariant-loop-byte l = record {
  first : (b : ℕ) → byte_bitmap_contains l.fn.first b ≡ true → byte_bitmap_contains l.run b ≡ true;
  others : (b : ℕ) → 0x80 ≤ b → b < l.byte → byte_bitmap_contains l.run b ≡ true;
}
