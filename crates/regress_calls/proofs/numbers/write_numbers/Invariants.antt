use Rattle.std.proofs.Common.{◌≡◌, map, string_bytes, ◌≤◌, length, ℕ, List}
use Rattle.regress_calls.specs.Names.{AreNumbers, written_over}
use Rattle.regress_calls.proofs.numbers.write_numbers.Given as goal

-- the numbers so far are written
abbrev pub invariant-loop-k : goal.invariant-loop-k
invariant-loop-k l =
    (l.count ≤ l.k) × ((numbers : List ℕ) × AreNumbers (map string_bytes l.names) l.name l.k numbers × (l.count ≡ length numbers) × (l.numbers ≡ written_over numbers l.fn.numbers))
