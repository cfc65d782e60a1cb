use Rattle.regress_front_bytes.specs.Bitmaps.{byte_bitmap_contains}
use Rattle.regress_front_bytes.proofs.BitRows.{has_bit-zeros}
use Rattle.regress_front_bytes.proofs.bitmaps.ByteBitmapDefault.default.Goals as goal

pub returns : goal.returns
unfolding byte_bitmap_contains
returns c = has_bit-zeros 16 16
