use Rattle.std.proofs.Common.{◌≡◌, ℕ, ◌-◌, ◌<◌, ◌≤◌, true, length}
use Rattle.regress_engine_scanning.specs.Units.{has_ends}
use Rattle.regress_engine_scanning.proofs.units.pass_ends.Given as goal

-- none so far
abbrev pub invariant-loop-at : goal.invariant-loop-at
invariant-loop-at l = record {
  low : l.from ≤ l.at;
  high : l.at ≤ length l.units;
  none : (k : ℕ) → l.from ≤ k → k < l.at → ¬ (has_ends l.first l.last l.apart l.units k ≡ true);
}

abbrev pub decreases-loop-at : goal.decreases-loop-at
decreases-loop-at l = length l.units - l.at
