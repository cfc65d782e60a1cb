use Rattle.std.proofs.Common.{◌≡◌, ℕ, ◌+◌, ◌||◌, Bool, List, take, sym, ap, subst, ◌∙◌, arith}
use Rattle.std.proofs.lemmas.List.{take_all}
use Rattle.regress_meaning.specs.TableParts.{image, in_intervals}
use Rattle.regress_front_sets.specs.declared.interval.Interval.{Interval}
use Rattle.regress_front_sets.specs.Intervals.{ends_of, in_interval}
use Rattle.regress_front_sets.specs.Sets.{in_set}
use Rattle.regress_front_sets.proofs.IntervalLemmas.{in_intervals-nil, in_intervals-bounded}
use Rattle.regress_front_tables.specs.Folding.{Unites}
use Rattle.regress_front_tables.specs.MapViews.{pairs_of}
use Rattle.regress_front_tables.proofs.FoldingLemmas.{Unites-none, Unites-both, closure-united, in_intervals-more, in_intervals-at, or_none}
use Rattle.regress_front_tables.proofs.folding.closed_by.Goals as goal

pub loop-interval-init : goal.loop-interval-init
loop-interval-init c =
    let s = in_set c.args.set in
    Unites-none (image (pairs_of c.args.map.now)) _ s _ (λ d. in_intervals-nil d)
    (λ d. ap (λ intervals. s d || in_intervals (ends_of intervals) d) c.new-added.ensures ∙ ap (λ b. s d || b) (in_intervals-nil d) ∙ or_none (s d))

pub add_classes-requires : goal.add_classes-requires
add_classes-requires c d inside =
    let items = c.intervals-interval-items.result.now in
    let item = c.interval-item in
    ap (λ intervals. in_intervals (ends_of intervals) d) (sym c.intervals-interval-items.ensures)
    ∙ in_intervals-at items c.loop-interval.interval-index item.result d c.loop-interval-test.true (ap (λ i. in_interval i d) (sym item.is) ∙ inside)

pub loop-interval-preserved : goal.loop-interval-preserved
loop-interval-preserved c =
    let items = c.intervals-interval-items.result.now in
    let item = c.interval-item in
    let k = c.loop-interval.interval-index in
    Unites-both (image (pairs_of c.args.map.now)) (in_intervals (ends_of (take k items))) (in_interval item.result) (in_intervals (ends_of (take (k + 1) items))) _ _ _
    (λ d. in_intervals-more items k item.result d c.loop-interval-test.true ∙ ap (λ i. in_intervals (ends_of (take k items)) d || in_interval i d) (sym item.is))
    c.loop-interval.invariant c.in_ok-add_classes.ensures

pub returns : goal.returns
returns c d =
    let map_of = image (pairs_of c.args.map.now) in
    let set = c.args.set in
    let items = c.intervals-interval-items.result.now in
    let whole : take c.loop-interval.interval-index items ≡ set.intervals.items =
    take_all c.loop-interval.interval-index items c.loop-interval-test.false ∙ c.intervals-interval-items.ensures in
    let both : ℕ → Bool = λ e. in_set set e || in_set c.loop-interval.added e in
    let UnitesAll : List Interval → Type 0 = λ intervals. Unites map_of (in_intervals (ends_of intervals)) (in_set set) both in
    c.in_ok-try_add_set.ensures.members d
    ∙ closure-united map_of (in_set set) both (λ e m. omega (arith, in_intervals-bounded (ends_of set.intervals.items) e set.canonical m))
    (subst UnitesAll whole c.loop-interval.invariant) d
