-- The facts on order have one proof at most, so a value may carry them.
use Rattle.std.specs.Prelude.{ℕ, List, [], ◌∷◌}
use mathlib.Core.HLevel.{Unit-prop}
use denote.Struct.Props as logic
use Rattle.regress_meaning.specs.TableParts.{TableParts, IsLawful, PairsRise, IntervalsRise}

-- pairs rise in one way
pub PairsRise-prop : (pairs : List (ℕ × ℕ)) → IsProp (PairsRise pairs)
PairsRise-prop [] = Unit-prop
PairsRise-prop (p ∷ []) = Unit-prop
PairsRise-prop (p ∷ q ∷ pairs) = let rest = PairsRise-prop (q ∷ pairs) in Prim.hlevel (rest, logic.props)

-- intervals rise in one way
pub IntervalsRise-prop : (intervals : List (ℕ × ℕ)) → IsProp (IntervalsRise intervals)
IntervalsRise-prop [] = Unit-prop
IntervalsRise-prop (i ∷ []) = Prim.hlevel logic.props
IntervalsRise-prop (i ∷ j ∷ intervals) = let rest = IntervalsRise-prop (j ∷ intervals) in Prim.hlevel (rest, logic.props)

-- parts are lawful in one way
pub IsLawful-prop : (parts : TableParts) → IsProp (IsLawful parts)
IsLawful-prop parts =
    let fold = PairsRise-prop parts.fold in
    let upper = PairsRise-prop parts.upper in
    Prim.hlevel (fold, upper, IntervalsRise-prop, logic.props)
