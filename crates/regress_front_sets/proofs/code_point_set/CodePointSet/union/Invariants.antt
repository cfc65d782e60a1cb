use Rattle.std.proofs.Common.{◌+◌, ◌-◌, length}
use Rattle.regress_front_sets.proofs.SetLemmas.{IsMerged}
use Rattle.regress_front_sets.proofs.code_point_set.CodePointSet.union.Given as goal

abbrev pub invariant-loop-i : goal.invariant-loop-i
invariant-loop-i l = IsMerged l.left l.right l.union.intervals.items l.i l.j

abbrev pub decreases-loop-i : goal.decreases-loop-i
decreases-loop-i l = (length l.left - l.i) + (length l.right - l.j)
