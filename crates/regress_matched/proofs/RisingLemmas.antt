-- Items that rise lie one behind the other.
use Rattle.std.proofs.Common.{ℕ, ◌≤◌, List, [], ◌∷◌, arith}
use Rattle.regress_meaning.specs.Laws.{ItemsRise}
use Rattle.regress_meaning.specs.Matches.{Item}
use Rattle.regress_matched.specs.Behind.{LieBehind}

-- items that rise lie so from the front on
pub behind-front : (items : List Item) → ItemsRise items → LieBehind 0 items
behind-front items rises = from 0 items rises (least items)
  where
    StartsBehind : ℕ → List Item → Type 0
    StartsBehind at [] = Unit {0}
    StartsBehind at (i ∷ items) = at ≤ i.start

    least : (items : List Item) → StartsBehind 0 items
    least [] = tt
    least (i ∷ items) = omega arith

    from : (at : ℕ) (items : List Item) → ItemsRise items → StartsBehind at items → LieBehind at items
    from at [] rises starts = tt
    from at (i ∷ []) rises starts = (starts, rises, tt)
    from at (i ∷ j ∷ items) rises starts = (starts, rises.0, from i.end (j ∷ items) rises.3 rises.2)
