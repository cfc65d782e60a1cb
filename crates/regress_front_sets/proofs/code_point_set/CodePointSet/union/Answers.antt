use Rattle.std.proofs.Common.{◌+◌, ◌<◌, ◌||◌, length, sym, ap, ap₂, ◌∙◌, arith}
use Rattle.std.proofs.lemmas.Bool.{ltb-true, leb-true, leb-false, eq-eqb, true≢false}
use Rattle.regress_meaning.specs.TableParts.{in_intervals}
use Rattle.regress_front_sets.specs.Intervals.{ends_of}
use Rattle.regress_front_sets.proofs.SetLemmas.{IsMerged-flip, IsMerged-none, IsMerged-left, IsMerged-all, first_at}
use Rattle.regress_front_sets.proofs.code_point_set.CodePointSet.union.Goals.{then-j-right-2, else-j-right-2+then-i-left-2, else-j-right-2+else-i-left-2, then-i-left, else-i-left+then-j-right}
use Rattle.regress_front_sets.proofs.code_point_set.CodePointSet.union.Goals as goal

pub loop-i-init : goal.loop-i-init
loop-i-init c = IsMerged-none c.intervals-left.result.now c.intervals-right.result.now c.new-union.result.intervals.items c.new-union.ensures

pub loop-i-preserved-then-left-i : goal.loop-i-preserved-then-left-i
loop-i-preserved-then-left-i c =
    let left = c.intervals-left.result.now in
    let right = c.intervals-right.result.now in
    let item = c.index-left-i-then-left-i.result in
    let inside : c.loop-i.i < length left =
    elim c.if-j-right-2.branch [
      | then-j-right-2 w ↦ elim c.if-i-left.branch [ then-i-left v ↦ v.if-i-left.true | else-i-left+then-j-right v ↦ absurd (omega arith) ]
      | else-j-right-2+then-i-left-2 w ↦ w.if-i-left-2.true
      | else-j-right-2+else-i-left-2 w ↦ ltb-true _ _ (sym w.value-is ∙ c.if-left-i.true)
    ] in
    let first = first_at left c.loop-i.i item inside ∙ ap (λ i. i.first) (sym c.index-left-i-then-left-i.is) in
    IsMerged-left left right c.loop-i.union.intervals.items c.push.new.self.intervals.items c.loop-i.i c.loop-i.j
    item (rw c.intervals-left.ensures c.args.self.now.canonical) c.loop-i.invariant inside c.index-left-i-then-left-i.is
    (λ l. elim c.if-j-right-2.branch [
      | then-j-right-2 w ↦ absurd (omega arith)
      | else-j-right-2+then-i-left-2 w ↦
          omega (
            arith,
            leb-true _ _ (sym w.value-is ∙ c.if-left-i.true),
            first_at left c.loop-i.i w.index-left-i.result inside,
            first_at right c.loop-i.j w.index-right-j.result l,
            first,
          )
      | else-j-right-2+else-i-left-2 w ↦ absurd (omega (arith, w.if-i-left-2.false))
    ])
    c.in_ok-push.ensures.order c.in_ok-push.ensures.members

pub loop-i-preserved : goal.loop-i-preserved
loop-i-preserved c =
    let left = c.intervals-left.result.now in
    let right = c.intervals-right.result.now in
    let item = c.index-right-j-else-left-i.result in
    let inside : c.loop-i.j < length right =
    elim c.if-j-right-2.branch [
      | then-j-right-2 w ↦ absurd (true≢false (sym (eq-eqb c.loop-i.j (length right) w.if-j-right-2.true) ∙ sym w.value-is ∙ c.if-left-i.false))
      | else-j-right-2+then-i-left-2 w ↦ omega (arith, w.if-j-right-2.false)
      | else-j-right-2+else-i-left-2 w ↦ omega (arith, w.if-j-right-2.false)
    ] in
    let first = first_at right c.loop-i.j item inside ∙ ap (λ i. i.first) (sym c.index-right-j-else-left-i.is) in
    IsMerged-flip right left c.push-else-left-i.new.self.intervals.items (c.loop-i.j + 1) c.loop-i.i
    (IsMerged-left right left c.loop-i.union.intervals.items c.push-else-left-i.new.self.intervals.items c.loop-i.j c.loop-i.i
    item (rw c.intervals-right.ensures c.args.other.now.canonical) (IsMerged-flip left right c.loop-i.union.intervals.items c.loop-i.i c.loop-i.j c.loop-i.invariant)
    inside c.index-right-j-else-left-i.is
    (λ l. elim c.if-j-right-2.branch [
      | then-j-right-2 w ↦ absurd (omega arith)
      | else-j-right-2+then-i-left-2 w ↦
          omega (
            arith,
            leb-false _ _ (sym w.value-is ∙ c.if-left-i.false),
            first_at left c.loop-i.i w.index-left-i.result l,
            first_at right c.loop-i.j w.index-right-j.result inside,
            first,
          )
      | else-j-right-2+else-i-left-2 w ↦ absurd (omega (arith, w.if-i-left-2.false))
    ])
    c.in_ok-push-2.ensures.order c.in_ok-push-2.ensures.members)

pub returns : goal.returns
returns c =
    λ x. IsMerged-all c.intervals-left.result.now c.intervals-right.result.now c.loop-i.union.intervals.items c.loop-i.i c.loop-i.j c.loop-i.invariant (omega arith) (omega arith) x
    ∙ ap₂ (λ xs ys. in_intervals (ends_of xs) x || in_intervals (ends_of ys) x) c.intervals-left.ensures c.intervals-right.ensures
