use Rattle.std.proofs.Common.{◌||◌, take}
use Rattle.regress_meaning.specs.TableParts.{image, in_intervals}
use Rattle.regress_front_sets.specs.Intervals.{ends_of}
use Rattle.regress_front_sets.specs.Sets.{in_set}
use Rattle.regress_front_tables.specs.Folding.{Unites}
use Rattle.regress_front_tables.specs.MapViews.{pairs_of}
use Rattle.regress_front_tables.proofs.folding.closed_by.Given as goal

abbrev pub invariant-loop-interval : goal.invariant-loop-interval
invariant-loop-interval l = Unites (image (pairs_of l.map)) (in_intervals (ends_of (take l.interval-index l.interval-items)))
    (in_set l.fn.set) (λ c. in_set l.fn.set c || in_set l.added c)
