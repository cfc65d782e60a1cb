-- The code points that intervals hold.
use Rattle.std.specs.Prelude.{ℕ, ◌+◌, ◌-◌, ◌<◌, ◌≤◌, Bool, List, [], ◌∷◌, ◌++◌, length, map, nat_lt, slice_index_or, if◌then◌else◌}
use Rattle.std.specs.declared.cmp.Ordering.{Ordering}
use Rattle.std.specs.declared.cmp.Ordering.TheVariants.{Less, Equal, Greater}
use Rattle.regress_meaning.specs.Text.{between}
use Rattle.regress_meaning.specs.Table.{code_points}
use Rattle.regress_front_sets.specs.declared.interval.Interval.{Interval}

-- both ends of an interval
abbrev pub ends : Interval → ℕ × ℕ
ends i = (i.first, i.last)

-- the ends of each interval
abbrev pub ends_of : List Interval → List (ℕ × ℕ)
ends_of = map ends

-- c lies in the interval
abbrev pub in_interval : Interval → ℕ → Bool
in_interval i = between i.first i.last

-- whether the interval lies before c, holds it, or lies after it
abbrev pub interval_cmp : Interval → ℕ → Ordering
interval_cmp i c = if nat_lt i.last c then Less else if nat_lt c i.first then Greater else Equal

-- the interval at a place
abbrev pub interval_at : List (ℕ × ℕ) → ℕ → ℕ × ℕ
interval_at intervals k = slice_index_or intervals k (0, 0)

-- The intervals from the place s up to e, without e, are those that meet an interval or adjoin it.
pub record IsRun (intervals : List (ℕ × ℕ)) (interval : ℕ × ℕ) (s e : ℕ) : Type 0 where
  pub order : s ≤ e
  pub within : e ≤ length intervals
  pub before : (k : ℕ) → k < s → (interval_at intervals k).1 + 1 < interval.0
  pub met : (k : ℕ) → s ≤ k → k < e → (interval.0 ≤ (interval_at intervals k).1 + 1) × ((interval_at intervals k).0 ≤ interval.1 + 1)
  pub after : (k : ℕ) → e ≤ k → k < length intervals → interval.1 + 1 < (interval_at intervals k).0

-- the numbers from a up to b, without b, as an interval, if there are any
abbrev pub gap : ℕ → ℕ → List (ℕ × ℕ)
gap a b = if nat_lt a b then (a, b - 1) ∷ [] else []

-- the gaps between the intervals, from a up to the last code point
unfoldable pub gaps_from : ℕ → List (ℕ × ℕ) → List (ℕ × ℕ)
gaps_from a [] = gap a code_points
gaps_from a (i ∷ intervals) = gap a i.0 ++ gaps_from (i.1 + 1) intervals

-- the intervals of the code points that lie in none of these
abbrev pub inverse : List (ℕ × ℕ) → List (ℕ × ℕ)
inverse = gaps_from 0

-- each interval ends before the next begins
abbrev pub Ascend : List (ℕ × ℕ) → Type 0
Ascend intervals = (j k : ℕ) → j < k → k < length intervals → (interval_at intervals j).1 < (interval_at intervals k).0
