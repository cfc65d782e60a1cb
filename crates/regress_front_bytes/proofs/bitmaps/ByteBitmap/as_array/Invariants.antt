use Rattle.regress_front_bytes.specs.Bitmaps.{byte_bitmap_contains}
use Rattle.regress_front_bytes.proofs.Members.{TakesUp}
use Rattle.regress_front_bytes.proofs.bitmaps.ByteBitmap.as_array.Given as goal

abbrev pub invariant-loop-byte : goal.invariant-loop-byte
invariant-loop-byte g l = TakesUp (byte_bitmap_contains l.self) l.array l.filled l.byte
