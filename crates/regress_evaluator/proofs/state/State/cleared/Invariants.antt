use Rattle.std.proofs.Common.{◌≡◌, ◌≤◌}
use Rattle.regress_meaning.specs.Meaning.{cleared}
use Rattle.regress_evaluator.specs.StateViews.{state_of}
use Rattle.regress_evaluator.proofs.state.State.cleared.Given as goal

-- the groups so far are cleared; an empty range has none
abbrev pub invariant-loop-group : goal.invariant-loop-group
invariant-loop-group l =
    (state_of l.state ≡ cleared l.enclosed.start l.group (state_of l.self))
    × (l.enclosed.end ≤ l.enclosed.start → l.group ≡ l.enclosed.start)
