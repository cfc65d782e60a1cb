use Rattle.std.proofs.Common.{◌-◌, ◌≤◌, length}
use Rattle.regress_engine_scanning.proofs.ScanLemmas.{NoneTo}
use Rattle.regress_engine_scanning.proofs.units.find_member.Given as goal

-- none so far
abbrev pub invariant-loop-at : goal.invariant-loop-at
invariant-loop-at g l = record {
  low : l.from ≤ l.at;
  high : l.at ≤ length l.units;
  none : NoneTo (g.Set.UnitSet.contains l.set) l.units l.from l.at;
}

abbrev pub decreases-loop-at : goal.decreases-loop-at
decreases-loop-at g l = length l.units - l.at
