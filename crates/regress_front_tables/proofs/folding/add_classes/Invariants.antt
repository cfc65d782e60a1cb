use Rattle.std.proofs.Common.{◌≤◌, ◌+◌, ◌-◌, ◌&&◌, ◌||◌, nat_lt}
use Rattle.regress_meaning.specs.TableParts.{image}
use Rattle.regress_front_sets.specs.Intervals.{in_interval}
use Rattle.regress_front_sets.specs.Sets.{in_set}
use Rattle.regress_front_tables.specs.Folding.{Unites}
use Rattle.regress_front_tables.specs.MapViews.{pairs_of}
use Rattle.regress_front_tables.proofs.folding.add_classes.Given as goal

abbrev pub invariant-loop-c : goal.invariant-loop-c
invariant-loop-c l = (l.interval.first ≤ l.c) × Unites (image (pairs_of l.map)) (λ d. in_interval l.interval d && nat_lt d l.c)
    (λ d. in_set l.set d || in_set l.initial.added d) (λ d. in_set l.set d || in_set l.added d)

abbrev pub decreases-loop-c : goal.decreases-loop-c
decreases-loop-c l = l.interval.last + 1 - l.c
