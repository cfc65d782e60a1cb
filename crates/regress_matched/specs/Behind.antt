-- Items that lie one behind the other, from an offset on.
use Rattle.std.specs.Prelude.{ℕ, ◌≤◌, List, [], ◌∷◌, Option, Some, None}
use mathlib.Core.HLevel.{Unit-prop}
use denote.Struct.Props as logic
use Rattle.regress_meaning.specs.Matches.{Item}

-- The items lie one behind the other, from an offset on.
abbrev pub LieBehind : ℕ → List Item → Type 0
LieBehind at [] = Unit {0}
LieBehind at (i ∷ items) = (at ≤ i.start) × (i.start ≤ i.end) × LieBehind i.end items

pub LieBehind-prop : (at : ℕ) (items : List Item) → IsProp (LieBehind at items)
LieBehind-prop at [] = Unit-prop
LieBehind-prop at (i ∷ items) = let rest = LieBehind-prop i.end items in Prim.hlevel (rest, logic.props)

-- the same where there is an offset
abbrev pub LieBehindAny : Option ℕ → List Item → Type 0
LieBehindAny None items = Unit {0}
LieBehindAny (Some at) items = LieBehind at items

pub LieBehindAny-prop : (at : Option ℕ) (items : List Item) → IsProp (LieBehindAny at items)
LieBehindAny-prop None items = Unit-prop
LieBehindAny-prop (Some at) items = LieBehind-prop at items
