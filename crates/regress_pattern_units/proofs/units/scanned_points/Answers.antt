use Rattle.regress_pattern_units.specs.declared.units.Place.TheVariants.{Outside}
use Rattle.regress_pattern_units.specs.PatternUnits.{scanned_points}
use Rattle.regress_pattern_units.proofs.PatternLemmas.{scanned_none, scanned-pushed, all-pushed}
use Rattle.regress_pattern_units.proofs.units.scanned_points.Goals as goal

pub loop-rest-preserved : goal.loop-rest-preserved
loop-rest-preserved c =
    scanned-pushed c.args.named c.is_in_name.result c.loop-rest.place c.behind-place.result c.loop-rest.rest.now c.loop-rest.points.items c.push.new.self.items
    c.point_at-point.result.0 c.point_at-point.result.1.now (scanned_points c.args.named Outside c.args.units.now) c.in-len1-up.len_at_least
    c.behind-place.ensures c.is_in_name.ensures c.point_at-point.ensures.point c.point_at-point.ensures.behind c.in_ok-push.ensures.items c.loop-rest.invariant

pub returns : goal.returns
returns c =
    all-pushed (scanned_points c.args.named c.loop-rest.place) c.loop-rest.rest.now c.loop-rest.points.items (scanned_points c.args.named Outside c.args.units.now)
    c.in_default.len_below (scanned_none c.args.named c.loop-rest.place) c.loop-rest.invariant
