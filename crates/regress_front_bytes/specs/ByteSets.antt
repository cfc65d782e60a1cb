-- Sets of bytes, as tests.
use Rattle.std.specs.Prelude.{ℕ, ◌/◌, ◌%◌, Bool, List, ◌==◌, filter, slice_index}
use Rattle.std.specs.List.{range_with_len}
use Rattle.std.specs.Int.{bit_at}

-- every byte, ascending
unfoldable pub all_bytes : List ℕ
all_bytes = range_with_len 0 256

-- the bytes that pass a test, ascending
abbrev pub members : (ℕ → Bool) → List ℕ
members set = filter set all_bytes

-- in rows of so many bits each, the nth bit is on
unfoldable pub has_bit : (width : ℕ) → List ℕ → ℕ → Bool
has_bit width rows n = bit_at (slice_index rows (n / width)) (n % width) == 1
