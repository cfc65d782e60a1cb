-- Rows of sixteen bits in halves.
use Rattle.std.specs.Prelude.{ℕ, ◌-◌, ◌/◌, ◌%◌, ◌==◌, Bool, cond, nat_lt, List, slice_index}
use Rattle.std.specs.Int.{bit_at}

-- bit b % 16 of the row b / 16 is on, where a table has the lower eight bits of each row, and another the upper
abbrev pub halved : (lower upper : List ℕ) → ℕ → Bool
halved lower upper b = cond (nat_lt (b % 16) 8) (bit_at (slice_index lower (b / 16)) (b % 16) == 1) (bit_at (slice_index upper (b / 16)) (b % 16 - 8) == 1)
