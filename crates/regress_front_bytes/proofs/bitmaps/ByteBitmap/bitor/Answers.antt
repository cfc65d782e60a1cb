use Rattle.std.proofs.Common.{arith}
use Rattle.regress_front_bytes.specs.Bitmaps.{byte_bitmap_contains}
use Rattle.regress_front_bytes.proofs.BitRows.{has_bit-or}
use Rattle.regress_front_bytes.proofs.bitmaps.ByteBitmap.bitor.Goals as goal

pub returns : goal.returns
unfolding byte_bitmap_contains
returns c =
    has_bit-or 16 c.args.self.now.0 c.args.rhs.now.0 c.loop-i.self.0 16 (omega arith) (omega arith) (omega arith) (λ k h. c.loop-i.invariant.joined k (omega arith))
