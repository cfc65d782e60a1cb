use Rattle.std.proofs.Common.{◌/◌, w8, arith}
use Rattle.regress_front_bytes.specs.Bitmaps.{ascii_bitmap_contains}
use Rattle.regress_front_bytes.proofs.BitRows.{has_bit-not}
use Rattle.regress_front_bytes.proofs.bitmaps.AsciiBitmap.inverted.Goals as goal

pub returns : goal.returns
unfolding ascii_bitmap_contains
returns c b within =
    has_bit-not w8 (omega arith) c.args.self.now.0 c.loop-row.row-items b (c.loop-row.invariant.small (b / 8) (omega arith)) (c.loop-row.invariant.turned (b / 8) (omega arith))
