use Rattle.std.proofs.Common.{ap, ◌∙◌, arith}
use Rattle.regress_front_sets.specs.Intervals.{ends_of, inverse}
use Rattle.regress_front_sets.proofs.SetLemmas.{gaps_from-drop_more, gaps_from-drop_all}
use Rattle.regress_front_sets.proofs.code_point_set.CodePointSet.gaps.Goals as goal

pub loop-interval-preserved : goal.loop-interval-preserved
loop-interval-preserved c =
    let before = c.loop-interval in
    gaps_from-drop_more (ends_of before.gaps.items) (ends_of c.push_gap.new.gaps.items) before.next before.interval-index
    c.deref-interval-items.result.now c.interval-item.result c.loop-interval-test.true c.interval-item.is c.in_ok-push_gap.ensures
    ∙ before.invariant

pub returns : goal.returns
returns c =
    let last = c.loop-interval in
    gaps_from-drop_all (ends_of last.gaps.items) (ends_of c.push_gap-2.new.gaps.items) last.next last.interval-index
    c.deref-interval-items.result.now (omega arith) c.in_ok-push_gap-2.ensures
    ∙ last.invariant
    ∙ ap (λ l. inverse (ends_of l)) c.deref-interval-items.ensures.value
