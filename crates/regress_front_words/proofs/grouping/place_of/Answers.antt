use Rattle.std.proofs.Common.{◌≡◌, ◌-◌, ◌+◌, suc, length, drop, All, get_or, Some, subst, ap, ◌∙◌, arith}
use Rattle.std.proofs.lemmas.List.{get_or_default}
use Rattle.regress_front_words.specs.Grouping.{IsOfOther}
use Rattle.regress_front_words.proofs.GroupLemmas.{last-here, others-more}
use Rattle.regress_front_words.proofs.grouping.place_of.Goals as goal

pub returns-then-other-letter : goal.returns-then-other-letter
returns-then-other-letter c =
    let groups = c.args.groups.now in
    let place = length c.args.groups.now - 1 - c.loop-passed.passed in
    let letter = c.in-Some.letter in
    let next : length c.args.groups.now - c.loop-passed.passed ≡ suc (length c.args.groups.now - 1 - c.loop-passed.passed) = omega (arith, c.loop-passed-test.true) in (
      letter,
      c.in-Some.is,
      last-here letter groups place (get_or groups place _) (omega (arith, c.loop-passed-test.true)) (get_or_default groups place _ _ (omega (arith, c.loop-passed-test.true))) (c.in-Some-letter.is ∙ ap Some c.if-other-letter.true)
          (subst (λ n. All (IsOfOther letter) (drop n groups)) next c.loop-passed.invariant),
    )

pub loop-passed-preserved : goal.loop-passed-preserved
loop-passed-preserved c =
    let groups = c.args.groups.now in
    let place = length c.args.groups.now - 1 - c.loop-passed.passed in
    let letter = c.in-Some.letter in
    let next : length c.args.groups.now - c.loop-passed.passed ≡ suc (length c.args.groups.now - 1 - c.loop-passed.passed) = omega (arith, c.loop-passed-test.true) in
    let same : length c.args.groups.now - 1 - c.loop-passed.passed ≡ length c.args.groups.now - (c.loop-passed.passed + 1) = omega (arith, c.loop-passed-test.true) in
    subst (λ n. All (IsOfOther letter) (drop n groups)) same
    (others-more letter groups place (get_or groups place _) c.in-Some-letter.other (omega (arith, c.loop-passed-test.true)) (get_or_default groups place _ _ (omega (arith, c.loop-passed-test.true))) c.in-Some-letter.is c.if-other-letter.false
    (subst (λ n. All (IsOfOther letter) (drop n groups)) next c.loop-passed.invariant))
