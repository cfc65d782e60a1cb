use Rattle.std.proofs.Common.{◌≡◌, map, drop}
use Rattle.regress_front_sets.specs.Intervals.{ends_of}
use Rattle.regress_front_tables.specs.Entries.{entry_of}
use Rattle.regress_front_tables.specs.Breaking.{key_out_of_place}
use Rattle.regress_front_tables.proofs.tables.order.key_out_of_place.Given as goal

abbrev pub invariant-loop-key : goal.invariant-loop-key
invariant-loop-key l =
    key_out_of_place (map (entry_of (λ v. ends_of v.items)) (drop l.key-index l.properties))
    ≡ key_out_of_place (map (entry_of (λ v. ends_of v.items)) l.properties)
