-- The parts that lists and sets stand for.
use Rattle.std.specs.Prelude.{ℕ, List, String, Vec, map}
use Rattle.std.specs.declared.alloc.Global.{Global}
use Rattle.regress_meaning.specs.TableParts.{TableParts}
use Rattle.regress_front_sets.specs.declared.code_point_set.CodePointSet.{CodePointSet}
use Rattle.regress_front_sets.specs.Sets.{ends_in}
use Rattle.regress_front_tables.specs.declared.tables.Known.{Known}
use Rattle.regress_front_tables.specs.Entries.{entry_of}
use Rattle.regress_front_tables.specs.MapViews.{pairs_of}

-- the parts of the lists and the sets
abbrev pub listed : List (ℕ × ℕ) → List (ℕ × ℕ) → CodePointSet → CodePointSet → List (String Global × CodePointSet)
    → List (String Global × Vec (Vec ℕ Global) Global) → TableParts
listed fold upper id_start id_continue properties sequences = record {
  fold = fold;
  upper = upper;
  id_start = ends_in id_start;
  id_continue = ends_in id_continue;
  properties = map (entry_of ends_in) properties;
  sequences = map (entry_of (λ v. map (λ s. s.items) v.items)) sequences;
}

-- the parts of what tables know
abbrev pub parts_known : Known → TableParts
parts_known k = listed (pairs_of k.fold) (pairs_of k.upper) k.id_start k.id_continue k.properties.items k.sequences.items
