use Rattle.std.proofs.Common.{◌≡◌, ◌≤◌, length, take, slice_range, subst, sym, arith}
use Rattle.std.proofs.lemmas.List.{take_all}
use Rattle.regress_front_words.specs.Sharing.{spelled, AreSame}
use Rattle.regress_front_words.proofs.ShareLemmas.{spelled-at, spelled-more, same-less, same-more}
use Rattle.regress_front_words.proofs.sharing.shared_end.Goals as goal

pub same_up_to-end-requires-clause-inside : goal.same_up_to-end-requires-clause-inside
same_up_to-end-requires-clause-inside c =
    let from = c.args.from in (
      c.loop-other.invariant.1,
      subst (λ ws. from ≤ length ws) (sym c.deref.ensures.value)
          (spelled-at (λ w. from ≤ length w) c.args.others.now c.loop-other.other-index c.other-item.result c.loop-other-test.true c.other-item.is c.requires.others),
    )

pub loop-other-preserved : goal.loop-other-preserved
loop-other-preserved c =
    let from = c.args.from in
    let first = c.args.first.now in
    let end = c.same_up_to-end.result in
    let i = c.loop-other.other-index in
    let others = c.args.others.now in
    let order = c.same_up_to-end.ensures.order in
    let less = order.1 in
    let inside = c.loop-other.invariant.1 in (
      order.0,
      omega (arith, less, inside),
      same-more from end (slice_range first from end) (spelled (take i others)) _ c.other-item.result.items
          (spelled-more others i c.other-item.result c.loop-other-test.true c.other-item.is)
          (same-less from c.loop-other.end end first (spelled (take i others)) less c.loop-other.invariant.2)
          (subst (λ ws. end ≤ length ws) c.deref.ensures.value order.2)
          (subst (λ ws. slice_range ws from end ≡ slice_range first from end) c.deref.ensures.value c.same_up_to-end.ensures.same),
    )

pub returns-clause-same : goal.returns-clause-same
returns-clause-same c =
    let others = c.args.others.now in
    let end = c.loop-other.end in
    let whole = take_all c.loop-other.other-index others (omega (arith, c.loop-other-test.false, c.loop-other.auto.other-index-end)) in
    subst (λ ws. AreSame c.args.from end (slice_range c.args.first.now c.args.from end) (spelled ws)) whole c.loop-other.invariant.2
