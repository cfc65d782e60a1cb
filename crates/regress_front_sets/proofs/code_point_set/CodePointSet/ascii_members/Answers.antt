use Rattle.std.proofs.Common.{◌≡◌, ◌<◌, ◌||◌, false, drop, subst, sym, ap, ◌∙◌, inl, inr, arith}
use Rattle.std.proofs.Math.Bool.{or-false}
use Rattle.std.proofs.lemmas.Bool.{cases_lt, lt-ltb, le-ltb}
use Rattle.regress_meaning.specs.TableParts.{in_intervals, IntervalsRise}
use Rattle.regress_front_bytes.specs.Bitmaps.{ascii_bitmap_contains}
use Rattle.regress_front_sets.specs.Intervals.{ends_of}
use Rattle.regress_front_sets.proofs.SetLemmas.{held-none}
use Rattle.regress_front_sets.proofs.AsciiLemmas.{nothing-below, added-more}
use Rattle.regress_front_sets.proofs.code_point_set.CodePointSet.ascii_members.Goals.{else-loop-interval-test, then-loop-interval-test+then-interval-ge128}
use Rattle.regress_front_sets.proofs.code_point_set.CodePointSet.ascii_members.Goals as goal

pub loop-interval-preserved : goal.loop-interval-preserved
loop-interval-preserved c = λ d low.
    added-more c.intervals-interval-items.result.now c.loop-interval.interval-index c.interval-item.result d (ascii_bitmap_contains c.loop-interval.bitmap d)
    (ascii_bitmap_contains c.add_ascii.new.bitmap d) c.loop-interval-test.true c.interval-item.is (c.add_ascii.ensures d low)
    ∙ c.loop-interval.invariant d low

pub returns : goal.returns
returns c = λ d.
    let xs = c.intervals-interval-items.result.now in
    let k = c.loop-interval.interval-index in
    let bitmap = c.loop-interval.bitmap in
    let told = c.intervals-interval-items.ensures in
    let rise : IntervalsRise (ends_of xs) = subst (λ ys. IntervalsRise (ends_of ys)) (sym told) c.args.self.now.canonical in
    let rest : d < 0x80 → in_intervals (drop k (ends_of xs)) d ≡ false = λ low.
    elim c.loop-interval-test.branch [
      | else-loop-interval-test w ↦ held-none xs k d (omega (arith, w.loop-interval-test.false))
      | then-loop-interval-test+then-interval-ge128 w ↦
          nothing-below xs k w.interval-item.result d rise w.loop-interval-test.true w.interval-item.is (omega (arith, low, w.if-interval-ge128.true))
    ] in
    elim (cases_lt d 0x80) [
      | inl low ↦
          rw (lt-ltb d 0x80 low)
          (sym (or-false (ascii_bitmap_contains bitmap d))
          ∙ ap (λ b. ascii_bitmap_contains bitmap d || b) (sym (rest low))
          ∙ c.loop-interval.invariant d low
          ∙ ap (λ ys. in_intervals (ends_of ys) d) told)
      | inr high ↦ rw (le-ltb d 0x80 high) (c.ascii_bitmap_holds_ascii.ensures d high)
    ]
