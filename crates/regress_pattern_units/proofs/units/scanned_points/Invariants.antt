use Rattle.std.proofs.Common.{◌≡◌, ◌++◌, length}
use Rattle.regress_pattern_units.specs.declared.units.Place.TheVariants.{Outside}
use Rattle.regress_pattern_units.specs.PatternUnits.{scanned_points}
use Rattle.regress_pattern_units.proofs.units.scanned_points.Given as goal

abbrev pub invariant-loop-rest : goal.invariant-loop-rest
invariant-loop-rest l = l.points.items ++ scanned_points l.named l.place l.rest ≡ scanned_points l.named Outside l.units

abbrev pub decreases-loop-rest : goal.decreases-loop-rest
decreases-loop-rest l = length l.rest
