-- That matches lie in order has one proof at most, so a struct may keep it in a ghost field.
use Rattle.std.specs.Prelude.{ℕ, List, [], ◌∷◌, Option, Some, None, All, IfSome, get_or}
use mathlib.Core.HLevel.{Π_prop, Unit-prop}
use denote.Struct.Props as logic
use Rattle.std.specs.declared.ops.Range.{Range}
use Rattle.regress_match.specs.declared.found.Match.{Match}
use Rattle.regress_match.specs.TextRanges.{LiesBetween, LiesInText}
use Rattle.esgrep_rows.specs.Found.{LieInOrder}

group-prop : (text : List ℕ) (g : Option (Range ℕ)) → IsProp (IfSome g (LiesBetween text))
group-prop text None = Unit-prop
group-prop text (Some r) = Prim.hlevel logic.props

LiesInText-prop : (text : List ℕ) (m : Match) → IsProp (LiesInText text m)
LiesInText-prop text m =
    let groups : IsProp (All (λ g. IfSome g (LiesBetween text)) m.captures.items) = Π_prop (λ k. Π_prop (λ d. Π_prop (λ less. group-prop text (get_or m.captures.items k d)))) in
    Prim.hlevel (groups, logic.props)

pub LieInOrder-prop : (text : List ℕ) (at : ℕ) (ms : List Match) → IsProp (LieInOrder text at ms)
LieInOrder-prop text at [] = Unit-prop
LieInOrder-prop text at (m ∷ ms) = let here = LiesInText-prop text m in let rest = LieInOrder-prop text m.range.end ms in Prim.hlevel (here, rest, logic.props)
