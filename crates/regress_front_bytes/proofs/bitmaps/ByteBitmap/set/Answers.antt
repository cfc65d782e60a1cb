use Rattle.std.proofs.Common.{◌%◌, arith}
use Rattle.std.proofs.lemmas.Nat.{one_shl}
use Rattle.regress_front_bytes.specs.Bitmaps.{byte_bitmap_contains}
use Rattle.regress_front_bytes.proofs.BitRows.{has_bit-set}
use Rattle.regress_front_bytes.proofs.bitmaps.ByteBitmap.set.Goals as goal

pub returns : goal.returns
unfolding byte_bitmap_contains
returns c =
    has_bit-set 16 c.args.self.now.0 c.args.val _ _ c.from.ensures (one_shl (c.args.val % 16) 16 (omega arith)) (omega arith)
