-- Runs of members of a set.
use Rattle.std.specs.Prelude.{◌≡◌, ◌<◌, ◌≤◌, ℕ, Bool, List, true, false, slice_index}

-- from an index on, and before an end, members stand one after another up to a third index, and no further
pub record IsRun (contains : ℕ → Bool) (units : List ℕ) (from end far : ℕ) : Type 0 where
  pub low : from ≤ far
  pub high : far ≤ end
  pub each : (k : ℕ) → from ≤ k → k < far → contains (slice_index units k) ≡ true
  pub stops : far < end → contains (slice_index units far) ≡ false
