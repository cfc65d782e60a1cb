use Rattle.std.proofs.Common.{◌≡◌, ℕ, ◌-◌, ◌<◌, ◌≤◌, true, length, map}
use Rattle.regress_engine_scanning.specs.WordStarts.{begins_word}
use Rattle.regress_engine_scanning.proofs.word_start.WordStart.find_inside.Given as goal

-- none so far
abbrev pub invariant-loop-from : goal.invariant-loop-from
invariant-loop-from g l = record {
  low : l.offset ≤ l.from;
  high : l.from ≤ length l.units;
  none : (k : ℕ) → l.offset ≤ k → k < l.from → ¬ (begins_word l.self (map g.U.Unit.number l.units) k ≡ true);
}

abbrev pub decreases-loop-from : goal.decreases-loop-from
decreases-loop-from g l = length l.units - l.from
