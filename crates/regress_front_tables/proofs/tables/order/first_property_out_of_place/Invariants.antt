use Rattle.std.proofs.Common.{◌≡◌, map, drop}
use Rattle.regress_front_sets.specs.Intervals.{ends_of}
use Rattle.regress_front_tables.specs.Breaking.{first_out_of_place, first_some}
use Rattle.regress_front_tables.proofs.tables.order.first_property_out_of_place.Given as goal

abbrev pub invariant-loop-intervals : goal.invariant-loop-intervals
invariant-loop-intervals l =
    first_some (map (λ e. first_out_of_place (ends_of e.1.items)) (drop l.intervals-index l.properties))
    ≡ first_some (map (λ e. first_out_of_place (ends_of e.1.items)) l.properties)
