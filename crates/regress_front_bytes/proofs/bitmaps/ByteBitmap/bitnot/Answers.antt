use Rattle.std.proofs.Common.{◌/◌, w16, arith}
use Rattle.regress_front_bytes.specs.Bitmaps.{byte_bitmap_contains}
use Rattle.regress_front_bytes.proofs.BitRows.{has_bit-not}
use Rattle.regress_front_bytes.proofs.bitmaps.ByteBitmap.bitnot.Goals as goal

pub returns-clause-complement : goal.returns-clause-complement
unfolding byte_bitmap_contains
returns-clause-complement c b within =
    has_bit-not w16 (omega arith) c.args.self.now.0 c.loop-row.row-items b (c.loop-row.invariant.small (b / 16) (omega arith)) (c.loop-row.invariant.turned (b / 16) (omega arith))
