use Rattle.std.proofs.Common.{◌≡◌, ◌++◌, length}
use Rattle.regress_evaluator.specs.Repeating.{expansions}
use Rattle.regress_evaluator.proofs.tasks.push_expansions.Given as goal

-- the stack, and above it the states that are left, is the whole
abbrev pub invariant-loop-state : goal.invariant-loop-state
invariant-loop-state l =
    l.tasks.items ++ expansions l.next.items l.left l.need ≡ l.initial.tasks.items ++ expansions l.initial.next.items l.left l.need

abbrev pub decreases-loop-state : goal.decreases-loop-state
decreases-loop-state l = length l.next.items
