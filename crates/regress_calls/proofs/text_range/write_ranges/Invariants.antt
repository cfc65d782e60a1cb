use Rattle.std.proofs.Common.{◌≡◌, ◌<◌, ℕ, Some, slice_get}
use Rattle.regress_calls.specs.Ranges.{shown_range, range_numbered}
use Rattle.regress_calls.proofs.text_range.write_ranges.Given as goal

abbrev pub invariant-loop-k : goal.invariant-loop-k
invariant-loop-k l = (j : ℕ) → j < l.k → slice_get l.ranges j ≡ Some (shown_range (range_numbered l.slots j))
