use Rattle.std.proofs.Common.{◌≡◌, ℕ, ◌<◌, ◌≤◌, true, map}
use Rattle.regress_engine_scanning.specs.BytePairs.{begins_pair}
use Rattle.regress_engine_scanning.proofs.byte_pair.BytePair.find_slowly.Given as goal

-- none so far
abbrev pub invariant-loop-index : goal.invariant-loop-index
invariant-loop-index g l = (k : ℕ) → l.from ≤ k → k < l.index → ¬ (begins_pair l.self (map g.U.Unit.number l.units) k ≡ true)
