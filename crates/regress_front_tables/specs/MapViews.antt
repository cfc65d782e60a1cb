-- The pairs that a map of case stands for.
use Rattle.std.specs.Prelude.{ℕ, List}
use Rattle.regress_front_tables.specs.declared.tables.case_map.CaseMap.{CaseMap}
use Rattle.regress_front_tables.specs.CaseMaps.{pairs_in}

-- the code points that have images of their own, with these, from low to high
abbrev pub pairs_of : CaseMap → List (ℕ × ℕ)
pairs_of map = pairs_in map.images
