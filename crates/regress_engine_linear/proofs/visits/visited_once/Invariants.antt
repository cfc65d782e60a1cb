use Rattle.std.proofs.Common.{◌≡◌, ℕ, ◌<◌, ◌≤◌, length}
use Rattle.regress_engine_linear.proofs.OnceLemmas.{IsToldOnce, back-from}
use Rattle.regress_engine_linear.proofs.visits.visited_once.Given as goal

-- it is told of the addresses from here on
abbrev pub invariant-loop-at : goal.invariant-loop-at
invariant-loop-at l = record {
  within : l.at ≤ length l.insns;
  count : length l.once.items ≡ length l.insns;
  back : l.back ≡ back-from l.insns l.at;
  told : (k : ℕ) → l.at ≤ k → k < length l.insns → IsToldOnce l.insns l.starts l.once.items k;
}

abbrev pub decreases-loop-at : goal.decreases-loop-at
decreases-loop-at l = l.at
