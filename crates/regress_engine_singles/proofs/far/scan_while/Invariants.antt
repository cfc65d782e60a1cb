use Rattle.std.proofs.Common.{◌≡◌}
use Rattle.regress_engine_input.specs.Views.{direction_of, input_of, CanRead}
use Rattle.regress_engine_singles.specs.Passing.{scan_while}
use Rattle.regress_engine_singles.proofs.far.scan_while.Given as goal

-- what is left leads where all lead
abbrev pub invariant-loop-left : goal.invariant-loop-left
invariant-loop-left g l = record {
  rest : scan_while (input_of (g.Input.InputIndexer.view l.input)) (g.Matcher.SingleCharMatcher.passes l.matcher) (direction_of g.Dir.Direction.FORWARD) l.left (g.Input.Position.PositionType.offset l.behind)
      ≡ scan_while (input_of (g.Input.InputIndexer.view l.input)) (g.Matcher.SingleCharMatcher.passes l.matcher) (direction_of g.Dir.Direction.FORWARD) l.times l.offset;
  place : CanRead (g.Input.InputIndexer.view l.input) (g.Input.Position.PositionType.offset l.behind);
}

abbrev pub decreases-loop-left : goal.decreases-loop-left
decreases-loop-left g l = l.left
