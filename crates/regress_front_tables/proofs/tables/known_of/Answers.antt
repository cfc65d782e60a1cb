use Rattle.regress_meaning.specs.TableParts.{IntervalsRise}
use Rattle.regress_front_sets.specs.Intervals.{ends_of}
use Rattle.regress_front_tables.specs.Entries.{entry_of}
use Rattle.regress_front_sets.proofs.ListLemmas.{All-from_map}
use Rattle.regress_front_tables.proofs.tables.known_of.Goals as goal

pub property_sets-requires : goal.property_sets-requires
property_sets-requires c =
    All-from_map (λ e. IntervalsRise e.1) (entry_of (λ v. ends_of v.items)) c.args.parts.properties.items c.requires.canonical.2

pub new-requires : goal.new-requires
new-requires c =
    rw c.deref.ensures.value (record { range = c.requires.range.0.0; order = c.requires.order.0; idempotent = c.requires.idempotent.0; class_size = c.requires.class_size.0 })

pub new-requires-2 : goal.new-requires-2
new-requires-2 c =
    rw c.deref-2.ensures.value (record { range = c.requires.range.0.1; order = c.requires.order.1; idempotent = c.requires.idempotent.1; class_size = c.requires.class_size.1 })
