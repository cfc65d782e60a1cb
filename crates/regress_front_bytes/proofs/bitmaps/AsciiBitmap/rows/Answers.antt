use Rattle.std.proofs.Common.{refl}
use Rattle.regress_front_bytes.specs.Bitmaps.{ascii_bitmap_contains}
use Rattle.regress_front_bytes.proofs.bitmaps.AsciiBitmap.rows.Goals as goal

pub returns : goal.returns
unfolding ascii_bitmap_contains
returns c b = refl
