use Rattle.std.proofs.Common.{◌≡◌}
use Rattle.regress_meaning.specs.Meaning.{Forward}
use Rattle.regress_engine_input.specs.Views.{input_of, CanRead}
use Rattle.regress_engine_singles.specs.Passing.{scan_while}
use Rattle.regress_engine_singles.proofs.ahead.as_far_beside.Given as goal

-- what is left leads where all lead
abbrev pub invariant-loop-left : goal.invariant-loop-left
invariant-loop-left g l = record {
  rest : scan_while (input_of (g.Input.InputIndexer.view l.input)) (g.Matcher.SingleCharMatcher.passes l.matcher) Forward l.left l.behind
      ≡ scan_while (input_of (g.Input.InputIndexer.view l.input)) (g.Matcher.SingleCharMatcher.passes l.matcher) Forward l.times l.offset;
  place : CanRead (g.Input.InputIndexer.view l.input) l.behind;
}

abbrev pub decreases-loop-left : goal.decreases-loop-left
decreases-loop-left g l = l.left
