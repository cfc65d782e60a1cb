use Rattle.std.proofs.Common.{◌≡◌, ◌++◌, length}
use Rattle.regress_meaning.specs.Offsets.{characters}
use Rattle.regress_pattern_units.proofs.units.characters.Given as goal

abbrev pub invariant-loop-rest : goal.invariant-loop-rest
invariant-loop-rest l = l.points.items ++ characters l.rest ≡ characters l.units

abbrev pub decreases-loop-rest : goal.decreases-loop-rest
decreases-loop-rest l = length l.rest
