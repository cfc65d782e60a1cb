use Rattle.std.proofs.Common.{◌-◌}
use Rattle.regress_front_sets.proofs.HalvingLemmas.{IsSearched}
use Rattle.regress_front_sets.proofs.halving.bracket_index.Given as goal

abbrev pub invariant-loop-low : goal.invariant-loop-low
invariant-loop-low g l =
    IsSearched (g.P.Probes.intervals l.initial.probes) (g.P.Probes.intervals l.probes) l.cp l.low l.high (g.P.Probes.probes l.initial.probes) (g.P.Probes.probes l.probes)

abbrev pub decreases-loop-low : goal.decreases-loop-low
decreases-loop-low g l = l.high - l.low
