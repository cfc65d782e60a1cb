use Rattle.std.proofs.Common.{◌+◌, ◌||◌, drop, sym, ap, ◌∙◌, arith}
use Rattle.regress_meaning.specs.TableParts.{in_intervals}
use Rattle.regress_front_sets.specs.Intervals.{ends_of}
use Rattle.regress_front_sets.proofs.AsciiLemmas.{nothing-below}
use Rattle.regress_front_sets.proofs.SetLemmas.{held-from}
use Rattle.regress_engine_singles.proofs.class.lies_in_any.Goals as goal

pub returns-then-contains : goal.returns-then-contains
returns-then-contains c =
    let xs = c.args.intervals.now in
    let k = c.loop-interval.interval-index in
    ap (λ b. b || in_intervals (drop (k + 1) (ends_of xs)) c.args.number) c.if-contains.ensures
    ∙ sym (held-from xs k c.interval-item.result c.args.number c.loop-interval-test.true c.interval-item.is) ∙ c.loop-interval.invariant

pub loop-interval-preserved : goal.loop-interval-preserved
loop-interval-preserved c =
    let xs = c.args.intervals.now in
    let k = c.loop-interval.interval-index in
    ap (λ b. b || in_intervals (drop (k + 1) (ends_of xs)) c.args.number) c.if-contains.ensures
    ∙ sym (held-from xs k c.interval-item.result c.args.number c.loop-interval-test.true c.interval-item.is) ∙ c.loop-interval.invariant

pub returns-then-number-interval : goal.returns-then-number-interval
returns-then-number-interval c =
    let xs = c.args.intervals.now in
    let k = c.loop-interval.interval-index in
    sym (nothing-below xs k c.interval-item.result c.args.number c.requires c.loop-interval-test.true c.interval-item.is (omega (arith, c.if-number-interval.true))) ∙ c.loop-interval.invariant
