use Rattle.std.proofs.Common.{◌≡◌, ℕ, ◌<◌, true}
use Rattle.regress_front_bytes.specs.Bitmaps.{byte_bitmap_contains}
use Rattle.regress_engine_prefix.proofs.reach.ascii_of.Given as goal

abbrev pub invariant-loop-byte : goal.invariant-loop-byte
invariant-loop-byte l = record {
  low : (b : ℕ) → byte_bitmap_contains l.low b ≡ true → b < l.byte;
  kept : (b : ℕ) → b < l.byte → byte_bitmap_contains l.set b ≡ true → byte_bitmap_contains l.low b ≡ true;
}
