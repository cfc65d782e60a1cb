use Rattle.std.proofs.Common.{◌≡◌, ◌+◌, ◌-◌, Some, sym, ap, ◌∙◌, map, slice_get, arith}
use Rattle.regress_engine_scanning.specs.declared.landmark.Landmark.TheVariants.{Ahead}
use Rattle.regress_engine_scanning.proofs.LandmarkLemmas.{begins-both, is-byte, ahead-none, ahead-more}
use Rattle.regress_engine_scanning.proofs.landmark.find_ahead.Goals as goal

pub returns-then-stands_at : goal.returns-then-stands_at
returns-then-stands_at g c =
    let a = c.args in
    let first = a.first.now in
    let units = map g.U.Unit.number a.units.now in
    let at = c.in-Some.at in
    let start = at - a.distance in
    let found = c.in-Some.ensures.least in
    let before = c.loop-at.invariant.none in
    let low = c.loop-at.invariant.low in
    let far = found.0 in
    let e : start + a.distance ≡ at = omega (arith, low, far) in
    let there : slice_get units (start + a.distance) ≡ Some a.byte = ap (slice_get units) e ∙ found.1 in (
      omega (arith, low, far),
      begins-both first (Ahead a.distance a.byte) units start (sym c.stands_at.ensures ∙ c.if-stands_at.true) (is-byte _ a.byte there),
      λ k more less. ahead-none first a.distance a.byte units a.offset c.loop-at.from at before found.2 k more (omega (arith, e, less)),
    )

pub loop-at-preserved : goal.loop-at-preserved
loop-at-preserved g c =
    let a = c.args in
    let first = a.first.now in
    let units = map g.U.Unit.number a.units.now in
    let at = c.in-Some.at in
    let start = at - a.distance in
    let found = c.in-Some.ensures.least in
    let inside = c.in-Some.ensures.inside in
    let before = c.loop-at.invariant.none in
    let low = c.loop-at.invariant.low in
    let far = found.0 in
    let e : start + a.distance ≡ at = omega (arith, low, far) in
    let other = sym c.stands_at.ensures ∙ c.if-stands_at.false in
    record {
      low = omega (arith, low, far);
      high = omega (arith, inside);
      none = ahead-more first a.distance a.byte units a.offset c.loop-at.from at start before found.2 e other;
    }
