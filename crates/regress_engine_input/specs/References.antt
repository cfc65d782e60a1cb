-- What a group took stands beside a place once more.
use Rattle.std.specs.Prelude.{ℕ, Bool, List, Option, Some, None, if◌then◌else◌}

-- the place behind what stands beside one, where that passes
abbrev pub placed_by : (List ℕ → Bool) → Option (List ℕ × ℕ) → Option ℕ
placed_by test None = None
placed_by test (Some (cs, q)) = if test cs then Some q else None
