use Rattle.std.proofs.Common.{◌≡◌, take}
use Rattle.std.specs.Prelude.{sum_by}
use Rattle.regress_errors.specs.Texts.{unit_width}
use Rattle.regress_errors.proofs.refusing.units_before.Given as goal

-- the units of the code points so far
abbrev pub invariant-loop-point : goal.invariant-loop-point
invariant-loop-point l = l.count ≡ sum_by unit_width (take l.point-index l.before)
