use Rattle.std.proofs.Common.{◌≡◌, ◌++◌, chars, drop}
use Rattle.regress_evaluator.specs.Utf8Reading.{pending, IsPending}
use Rattle.regress_evaluator.proofs.utf8.characters.Given as goal

-- the characters so far, and behind them those that are still to come, are all
abbrev pub invariant-loop-b : goal.invariant-loop-b
invariant-loop-b l =
    IsPending l.left l.bits × (l.points.items ++ pending l.left l.bits (drop l.b-index l.bytes) ≡ chars l.bytes)
