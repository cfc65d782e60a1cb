-- The names of groups.
use Rattle.std.specs.Prelude.{◌≡◌, ◌≢◌, ℕ, ◌<◌, List, [], Some, length, map, slice_get}
use Rattle.std.specs.Arc.{arc_slice_items}
use Rattle.std.specs.String.{string_bytes}
use Rattle.std.specs.declared.alloc.Global.{Global}
use Rattle.std.specs.declared.string.String.{String}
use Rattle.std.specs.declared.sync.ArcSlice.{ArcSlice}

-- how many groups have their names here
abbrev pub group_count : ArcSlice (String Global) Global → ℕ
group_count names = length (arc_slice_items names)

-- names that are shared, as bytes of UTF-8
abbrev pub shared_names : ArcSlice (String Global) Global → List (List ℕ)
shared_names names = map string_bytes (arc_slice_items names)

-- The group of index k is the first that has the name, which is not empty.
pub record IsFirstNamed (name : List ℕ) (names : List (List ℕ)) (k : ℕ) : Type 0 where
  pub some : name ≢ []
  pub there : slice_get names k ≡ Some name
  pub first : (j : ℕ) → j < k → slice_get names j ≢ Some name
