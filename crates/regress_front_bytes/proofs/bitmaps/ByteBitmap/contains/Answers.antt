use Rattle.std.proofs.lemmas.Nat.Bits.{shr_and_one}
use Rattle.regress_front_bytes.specs.ByteSets.{has_bit}
use Rattle.regress_front_bytes.specs.Bitmaps.{byte_bitmap_contains}
use Rattle.regress_front_bytes.proofs.bitmaps.ByteBitmap.contains.Goals as goal

pub returns : goal.returns
unfolding byte_bitmap_contains has_bit
returns c = rw (c.from.ensures, shr_and_one)
