use Rattle.std.proofs.Common.{◌≡◌, length}
use Rattle.regress_front_sets.specs.Intervals.{ends_of}
use Rattle.regress_front_tables.specs.Breaking.{first_out_of_place}
use Rattle.regress_front_tables.proofs.tables.order.first_out_of_place.Given as goal

abbrev pub invariant-loop-rest : goal.invariant-loop-rest
invariant-loop-rest l = first_out_of_place (ends_of l.rest) ≡ first_out_of_place (ends_of l.intervals)

abbrev pub decreases-loop-rest : goal.decreases-loop-rest
decreases-loop-rest l = length l.rest
