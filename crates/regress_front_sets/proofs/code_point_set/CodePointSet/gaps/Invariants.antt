use Rattle.std.proofs.Common.{◌≡◌, ◌++◌, drop}
use Rattle.regress_front_sets.specs.Intervals.{ends_of, gaps_from, inverse}
use Rattle.regress_front_sets.proofs.code_point_set.CodePointSet.gaps.Given as goal

abbrev pub invariant-loop-interval : goal.invariant-loop-interval
invariant-loop-interval l =
    ends_of l.gaps.items ++ gaps_from l.next (drop l.interval-index (ends_of l.interval-items)) ≡ inverse (ends_of l.interval-items)
