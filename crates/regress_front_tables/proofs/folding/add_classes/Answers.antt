use Rattle.std.proofs.Common.{◌≡◌, ℕ, ◌+◌, ◌*◌, ◌/◌, ◌==◌, ◌&&◌, ◌||◌, nat_le, nat_lt, Bool, arith}
use Rattle.std.proofs.lemmas.Bool.{and_parts, or_left, leb-true, ltb-true}
use Rattle.regress_meaning.specs.Text.{between}
use Rattle.regress_meaning.specs.TableParts.{image}
use Rattle.regress_front_sets.specs.Intervals.{in_interval}
use Rattle.regress_front_sets.specs.Sets.{in_set}
use Rattle.regress_front_tables.specs.MapViews.{pairs_of}
use Rattle.regress_front_tables.proofs.FoldingLemmas.{Unites-alone, Unites-both, Unites-same, walk-further, walk-on, walk-all}
use Rattle.regress_front_tables.proofs.folding.add_classes.Goals as goal

pub loop-c-preserved-then-is_alone : goal.loop-c-preserved-then-is_alone
loop-c-preserved-then-is_alone c =
    let map_of = image (pairs_of c.args.map.now) in
    let interval = c.args.interval in
    let at = c.loop-c.c in
    let next = (at / 256 + 1) * 256 in
    let skipped : ℕ → Bool = λ d. (between interval.first interval.last d && nat_le at d) && nat_lt d next in
    let mid : ℕ → Bool = λ d. in_set c.args.set.now d || in_set c.loop-c.added d in (
      omega (arith, c.loop-c.invariant.0),
      Unites-both map_of (λ d. in_interval interval d && nat_lt d at) skipped (λ d. in_interval interval d && nat_lt d next) _ mid mid
          (λ d. walk-further interval.first interval.last at d next (omega arith)) c.loop-c.invariant.1
          (Unites-alone map_of skipped mid
          (λ d t. or_left _ _ (c.requires d (and_parts _ _ (and_parts _ _ t).0).0))
          (λ d x t e.
          let from = leb-true at d (and_parts _ _ (and_parts _ _ t).0).1 in
          let below = ltb-true d next (and_parts _ _ t).1 in
          let same_page : d / 256 ≡ at / 256 = omega (arith, from, below) in
          c.is_alone.ensures c.if-is_alone.true d x same_page e)),
    )

pub loop-c-preserved : goal.loop-c-preserved
loop-c-preserved c =
    let interval = c.args.interval in
    let at = c.loop-c.c in (
      omega (arith, c.loop-c.invariant.0),
      Unites-both (image (pairs_of c.args.map.now)) (λ d. in_interval interval d && nat_lt d at) (λ d. d == at) (λ d. in_interval interval d && nat_lt d (at + 1)) _ _ _
          (λ d. walk-on interval.first interval.last at d c.loop-c.invariant.0 c.loop-c-test.true) c.loop-c.invariant.1
          c.in_ok-add_class.ensures,
    )

pub returns : goal.returns
returns c =
    let interval = c.args.interval in
    let at = c.loop-c.c in
    Unites-same (image (pairs_of c.args.map.now)) (λ d. in_interval interval d && nat_lt d at) (in_interval interval) _ _
    (λ d. walk-all interval.first interval.last at d c.loop-c-test.false) c.loop-c.invariant.1
