use Rattle.regress_front_bytes.specs.Bitmaps.{ascii_bitmap_contains}
use Rattle.regress_front_bytes.proofs.BitRows.{has_bit-zeros}
use Rattle.regress_front_bytes.proofs.bitmaps.AsciiBitmapDefault.default.Goals as goal

pub returns : goal.returns
unfolding ascii_bitmap_contains
returns c = has_bit-zeros 8 16
