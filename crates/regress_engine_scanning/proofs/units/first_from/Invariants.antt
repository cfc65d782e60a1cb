use Rattle.regress_engine_scanning.proofs.ScanLemmas.{NoneTo}
use Rattle.regress_engine_scanning.proofs.units.first_from.Given as goal

-- none so far
abbrev pub invariant-loop-index : goal.invariant-loop-index
invariant-loop-index g l = NoneTo (g.Set.UnitSet.contains l.set) l.units l.from l.index
