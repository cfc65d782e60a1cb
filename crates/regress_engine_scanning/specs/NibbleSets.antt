-- The bytes that a pair of tables holds.
use Rattle.std.specs.Prelude.{ℕ, ◌/◌, ◌%◌, Bool, not, nat_eq, slice_index, bit_and}
use Rattle.regress_engine_scanning.specs.declared.nibble_set.NibbleSet.{NibbleSet}

-- b is a byte of the set: the entries of its two halves share a bit
abbrev pub nibble_set_contains : NibbleSet → ℕ → Bool
nibble_set_contains set b = not (nat_eq (bit_and (slice_index set.low (b % 16)) (slice_index set.high (b / 16))) 0)
