use Rattle.std.proofs.Common.{refl}
use Rattle.regress_front_bytes.specs.Bitmaps.{byte_bitmap_contains}
use Rattle.regress_front_bytes.proofs.bitmaps.ByteBitmap.rows.Goals as goal

pub returns : goal.returns
unfolding byte_bitmap_contains
returns c b = refl
