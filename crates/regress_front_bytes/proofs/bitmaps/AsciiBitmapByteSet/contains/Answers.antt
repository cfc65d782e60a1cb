use Rattle.std.proofs.Common.{sym, ◌∙◌, arith}
use Rattle.std.proofs.lemmas.Bool.{le-ltb}
use Rattle.std.proofs.lemmas.Nat.Bits.{shr_and_one}
use Rattle.regress_front_bytes.specs.ByteSets.{has_bit}
use Rattle.regress_front_bytes.specs.Bitmaps.{ascii_bitmap_contains}
use Rattle.regress_front_bytes.proofs.BitRows.{has_bit_past}
use Rattle.regress_front_bytes.proofs.bitmaps.AsciiBitmapByteSet.contains.Goals as goal

pub returns-then-b-lt128 : goal.returns-then-b-lt128
unfolding ascii_bitmap_contains has_bit
returns-then-b-lt128 c = rw (c.from.ensures, shr_and_one)

pub returns-else-b-lt128 : goal.returns-else-b-lt128
unfolding ascii_bitmap_contains
returns-else-b-lt128 c =
    le-ltb c.args.b 128 (omega arith) ∙ sym (has_bit_past 8 c.args.self.now.0 c.args.b (omega arith))
