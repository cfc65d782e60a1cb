-- The least number of which something holds.
use Rattle.std.specs.Prelude.{ℕ, ◌<◌, ◌≤◌, Option, Some, None}

-- the least number from one on of which something holds, or none
abbrev pub IsLeast : (ℕ → Type 0) → ℕ → Option ℕ → Type 0
IsLeast P from None = (o : ℕ) → from ≤ o → ¬ P o
IsLeast P from (Some at) = (from ≤ at) × P at × ((o : ℕ) → from ≤ o → o < at → ¬ P o)
