use Rattle.std.proofs.Common.{◌≡◌, ℕ, ◌<◌, ◌≤◌, true}
use Rattle.regress_engine_scanning.specs.Units.{has_ends}
use Rattle.regress_engine_scanning.proofs.units.first_ends.Given as goal

-- none so far
abbrev pub invariant-loop-index : goal.invariant-loop-index
invariant-loop-index l = (k : ℕ) → l.from ≤ k → k < l.index → ¬ (has_ends l.first l.last l.apart l.units k ≡ true)
