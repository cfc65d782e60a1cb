-- The lists that parts of tables hold.
use Rattle.std.specs.Prelude.{map}
use Rattle.regress_meaning.specs.TableParts as meaning
use Rattle.regress_front_tables.specs.declared.tables.parts.TableParts.{TableParts}
use Rattle.regress_front_sets.specs.Intervals.{ends_of}
use Rattle.regress_front_tables.specs.Entries.{entry_of}

-- the parts as plain lists
abbrev pub parts_of : TableParts → meaning.TableParts
parts_of p = record {
  fold = p.fold.items;
  upper = p.upper.items;
  id_start = ends_of p.id_start.items;
  id_continue = ends_of p.id_continue.items;
  properties = map (entry_of (λ v. ends_of v.items)) p.properties.items;
  sequences = map (entry_of (λ v. map (λ s. s.items) v.items)) p.sequences.items;
}
