-- Where the next search of an iterator goes from.
use mathlib.Core.HLevel.{Unit-prop}
use Rattle.std.specs.Prelude.{ℕ, Option, Some, None, IfSome}
use Rattle.regress_engine_input.specs.Views.{View, reading_of}
use Rattle.regress_engine_runs.specs.Meets.{IsAtPlace}
use Rattle.regress_engine_search.specs.SearchProps.{IsAtPlace-prop}

-- the position is that of a place of the text, if there is one
abbrev pub IsPlaced : View → Option ℕ → Type 0
IsPlaced v position = IfSome position (IsAtPlace (reading_of v))

-- and this has one proof at most
pub IsPlaced-prop : (v : View) (position : Option ℕ) → IsProp (IsPlaced v position)
IsPlaced-prop v None = Unit-prop
IsPlaced-prop v (Some at) = IsAtPlace-prop v at
