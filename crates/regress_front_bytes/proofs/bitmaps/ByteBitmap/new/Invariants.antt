use Rattle.std.proofs.Common.{◌≡◌, ℕ, take}
use Rattle.regress_meaning.specs.Text.{holds}
use Rattle.regress_front_bytes.specs.Bitmaps.{byte_bitmap_contains}
use Rattle.regress_front_bytes.proofs.bitmaps.ByteBitmap.new.Given as goal

abbrev pub invariant-loop-byte : goal.invariant-loop-byte
invariant-loop-byte l = (b : ℕ) → byte_bitmap_contains l.bitmap b ≡ holds (take l.byte-index l.bytes) b
