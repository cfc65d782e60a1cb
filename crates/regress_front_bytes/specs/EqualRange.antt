-- The items of a list that compare as equal.
use Rattle.std.specs.Prelude.{◌≡◌, ℕ, List, length}
use Rattle.std.specs.declared.cmp.Ordering.{Ordering}
use Rattle.std.specs.declared.cmp.Ordering.TheVariants.{Less, Equal, Greater}
use Rattle.std.specs.List.{AllWithin}

-- The items from one index to another compare as equal, all before them as less, and all behind them as greater.
pub record IsEqualRange {X : Type 0} (ord : X → Ordering) (xs : List X) (start end : ℕ) : Type 0 where
  pub less : AllWithin (λ x. ord x ≡ Less) xs 0 start
  pub equal : AllWithin (λ x. ord x ≡ Equal) xs start end
  pub greater : AllWithin (λ x. ord x ≡ Greater) xs end (length xs)
