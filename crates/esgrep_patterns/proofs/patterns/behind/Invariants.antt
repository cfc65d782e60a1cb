use Rattle.std.proofs.Common.{ℕ, ◌+◌, ◌-◌, ◌≤◌, ◌<◌, length}
use Rattle.regress.specs.Coming.{IsStart}
use Rattle.esgrep_patterns.proofs.patterns.behind.Given as goal

abbrev pub invariant-loop-next : goal.invariant-loop-next
invariant-loop-next l = record {
  after : l.found.range.end + 1 ≤ l.next;
  between : (k : ℕ) → l.found.range.end < k → k < l.next → IsStart l.text k → ⊥;
}

abbrev pub decreases-loop-next : goal.decreases-loop-next
decreases-loop-next l = length l.text + 1 - l.next
