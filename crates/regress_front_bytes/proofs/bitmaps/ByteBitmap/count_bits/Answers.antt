use Rattle.std.proofs.Common.{◌∙◌, sym, ap, get_or, below_more, arith}
use Rattle.std.proofs.lemmas.Grind.{common_steps}
use Rattle.std.proofs.lemmas.List.{take_all}
use Rattle.std.proofs.lemmas.Nat.{ones-le}
use Rattle.std.specs.List.{sum_by}
use Rattle.std.specs.Int.Count.{ones}
use Rattle.regress_front_bytes.specs.Bitmaps.{byte_bitmap_contains}
use Rattle.regress_front_bytes.proofs.Members.{length-members-has_bit}
use Rattle.regress_front_bytes.proofs.bitmaps.ByteBitmap.count_bits.Goals as goal

pub loop-row-preserved : goal.loop-row-preserved
loop-row-preserved c = record {
  counted = grind (arith, common_steps);
  small = below_more _ _ c.loop-row.invariant.small (omega arith);
  bounded = omega (arith, ones-le 16 (get_or c.args.self.now.0 c.loop-row.row-index 0) (omega arith));
}

pub returns : goal.returns
unfolding byte_bitmap_contains
returns c =
    let rows = c.args.self.now.0 in
    let counted = c.loop-row.invariant.counted ∙ ap (sum_by ones) (take_all c.loop-row.row-index rows (omega arith)) in
    counted ∙ sym (length-members-has_bit rows (omega arith) (λ k h. c.loop-row.invariant.small k (omega arith)))
