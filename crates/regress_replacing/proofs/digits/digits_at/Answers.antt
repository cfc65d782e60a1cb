use Rattle.regress_replacing.proofs.DigitLemmas.{digits-cut, digits-few, digits-split}
use Rattle.regress_replacing.proofs.digits.digits_at.Goals as goal

pub split_at-requires : goal.split_at-requires
split_at-requires c = digits-cut c.args.text.now c.digit_count.result c.utf8.text c.requires c.digit_count.ensures

pub invariant_of-result : goal.invariant_of-result
invariant_of-result c = record {
  few = rw c.split_at.ensures.front (digits-few c.args.text.now c.digit_count.result c.requires c.digit_count.ensures);
}

pub returns-clause-gives : goal.returns-clause-gives
returns-clause-gives c = λ names searched i.
    rw (c.split_at.ensures.front, c.split_at.ensures.back)
    (digits-split names searched i c.args.text.now c.digit_count.result c.requires c.digit_count.ensures)
