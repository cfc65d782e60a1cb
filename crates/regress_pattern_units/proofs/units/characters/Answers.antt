use Rattle.regress_meaning.specs.Offsets.{characters}
use Rattle.regress_pattern_units.proofs.PatternLemmas.{characters_none, characters-pushed, all-pushed}
use Rattle.regress_pattern_units.proofs.units.characters.Goals as goal

pub loop-rest-preserved : goal.loop-rest-preserved
loop-rest-preserved c =
    characters-pushed c.loop-rest.rest.now c.loop-rest.points.items c.push.new.self.items c.point_at-point.result.0 c.point_at-point.result.1.now (characters c.args.units.now)
    c.in-len1-up.len_at_least c.point_at-point.ensures.point c.point_at-point.ensures.behind c.in_ok-push.ensures.items c.loop-rest.invariant

pub returns : goal.returns
returns c = all-pushed characters c.loop-rest.rest.now c.loop-rest.points.items (characters c.args.units.now) c.in_default.len_below characters_none c.loop-rest.invariant
