use Rattle.std.proofs.Common.{◌≡◌, ◌-◌, ◌≤◌, Some}
use Rattle.regress_meaning.specs.Meaning.{Forward}
use Rattle.regress_meaning.specs.Steps.{passed}
use Rattle.regress_engine_input.specs.Views.{input_of, CanRead}
use Rattle.regress_engine_singles.specs.Passing.{after}
use Rattle.regress_engine_singles.proofs.taken.taken_beside.Given as goal

-- one more is taken behind those that were counted
abbrev pub invariant-loop-left : goal.invariant-loop-left
invariant-loop-left g l = record {
  behind : after (input_of (g.Input.InputIndexer.view l.input)) (g.Matcher.SingleCharMatcher.passes l.matcher) Forward (l.more - l.left) l.offset ≡ Some l.last;
  one : Some l.past ≡ passed (g.Matcher.SingleCharMatcher.passes l.matcher) ((input_of (g.Input.InputIndexer.view l.input)).next Forward l.last);
  within : l.left ≤ l.more;
  place : CanRead (g.Input.InputIndexer.view l.input) l.past;
}

abbrev pub decreases-loop-left : goal.decreases-loop-left
decreases-loop-left g l = l.left
