use Rattle.std.proofs.Common.{◌≡◌, ℕ, ◌<◌, ◌≤◌, true, map}
use Rattle.regress_engine_scanning.specs.WordStarts.{begins_word}
use Rattle.regress_engine_scanning.proofs.word_start.WordStart.find_slowly.Given as goal

-- none so far
abbrev pub invariant-loop-index : goal.invariant-loop-index
invariant-loop-index g l = (k : ℕ) → l.from ≤ k → k < l.index → ¬ (begins_word l.self (map g.U.Unit.number l.units) k ≡ true)
