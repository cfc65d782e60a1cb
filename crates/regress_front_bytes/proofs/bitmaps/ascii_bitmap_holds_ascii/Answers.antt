use Rattle.std.proofs.Common.{arith}
use Rattle.regress_front_bytes.specs.Bitmaps.{ascii_bitmap_contains}
use Rattle.regress_front_bytes.proofs.BitRows.{has_bit_past}
use Rattle.regress_front_bytes.proofs.bitmaps.ascii_bitmap_holds_ascii.Goals as goal

pub returns : goal.returns
unfolding ascii_bitmap_contains
returns c = λ b high. has_bit_past 8 c.args.bitmap.now.0 b (omega (arith, high))
