use Rattle.std.proofs.Common.{◌-◌}
use Rattle.regress_engine_singles.specs.Passing.{IsLowRun}
use Rattle.regress_engine_singles.proofs.runs.end_slowly.Given as goal

-- each up to there passes
abbrev pub invariant-loop-at : goal.invariant-loop-at
invariant-loop-at g l = IsLowRun (g.Matcher.SingleCharMatcher.passes l.matcher) l.bytes l.offset l.end l.at

abbrev pub decreases-loop-at : goal.decreases-loop-at
decreases-loop-at g l = l.end - l.at
