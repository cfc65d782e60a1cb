use Rattle.std.proofs.Common.{◌%◌, arith}
use Rattle.std.proofs.lemmas.Nat.{one_shl}
use Rattle.regress_front_bytes.specs.Bitmaps.{ascii_bitmap_contains}
use Rattle.regress_front_bytes.proofs.BitRows.{has_bit-set}
use Rattle.regress_front_bytes.proofs.bitmaps.AsciiBitmap.set.Goals as goal

pub returns : goal.returns
unfolding ascii_bitmap_contains
returns c =
    has_bit-set 8 c.args.self.now.0 c.args.val _ _ c.from.ensures (one_shl (c.args.val % 8) 8 (omega arith)) (omega arith)
