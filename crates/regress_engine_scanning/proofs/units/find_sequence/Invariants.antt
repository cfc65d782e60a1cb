use Rattle.std.proofs.Common.{◌≡◌, ℕ, ◌-◌, ◌<◌, ◌≤◌, length, take, drop}
use Rattle.regress_engine_scanning.proofs.units.find_sequence.Given as goal

-- they stand nowhere so far
abbrev pub invariant-loop-at : goal.invariant-loop-at
invariant-loop-at l = record {
  low : l.from ≤ l.at;
  high : l.at ≤ length l.units;
  none : (k : ℕ) → l.from ≤ k → k < l.at → ¬ (take (length l.bytes) (drop k l.units) ≡ l.bytes);
}

abbrev pub decreases-loop-at : goal.decreases-loop-at
decreases-loop-at l = length l.units - l.at
