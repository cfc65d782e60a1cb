-- Matches one behind another, as they stand in a caller's memory.
use Rattle.std.specs.Prelude.{◌≡◌, ℕ, Bool, true, false, ◌+◌, ◌*◌, ◌≤◌, List, [], ◌∷◌, ◌++◌, length, map, Some, slice_get, slice_range}
use Rattle.regress_meaning.specs.Matches.{Item}
use Rattle.regress_meaning.specs.Offsets.{Reading, Begins, told}
use Rattle.regress_calls.specs.Ranges.{ShowsItem}
use Rattle.regress_calls.specs.declared.text_range.TextRange.{TextRange}

-- Memory shows matches one after another, each in as many ranges as a width.
abbrev pub ShowsItems : (groups width : ℕ) → List Item → List TextRange → Type 0
ShowsItems groups width items ranges = (k : ℕ) (i : Item) → slice_get items k ≡ Some i → ShowsItem groups i (slice_range ranges (k * width) (k * width + width))

-- Of the matches from a place on, the first were found and are shown, and the search goes on before the others.
pub record FoundMany (r : Reading) (matches : ℕ → List Item) (groups width place found next : ℕ) (ranges : List TextRange) : Type 0 where
  pub first : List Item
  pub later : ℕ
  pub listed : matches place ≡ first ++ matches later
  pub counted : found ≡ length first
  pub shown : ShowsItems groups width (map (told r) first) ranges
  pub begins : Begins r next later

-- So it is where as many were found as there is room for; else those were all.
pub record FoundAsManyAsFit (r : Reading) (matches : ℕ → List Item) (groups width place found next : ℕ) (ranges : List TextRange) : Type 0 where
  pub many : FoundMany r matches groups width place found next ranges
  pub all : (found + 1) * width ≤ length ranges → matches many.later ≡ []

-- The first match from a place on is shown, and the search goes on behind it; or there is none, and none where it goes on.
abbrev pub IsNext : Reading → (matches : ℕ → List Item) → (groups place : ℕ) → (found : Bool) → (next : ℕ) → List TextRange → Type 0
IsNext r matches groups place true next ranges = (i : Item) × (later : ℕ) × (matches place ≡ i ∷ matches later) × ShowsItem groups (told r i) ranges × Begins r next later
IsNext r matches groups place false next ranges = (later : ℕ) × (matches place ≡ []) × (matches later ≡ []) × Begins r next later
