use Rattle.std.proofs.Common.{◌≡◌, ◌-◌, false, length}
use Rattle.regress_meaning.specs.Meaning.{Backward, word_at}
use Rattle.regress_meaning.specs.Steps.{point}
use Rattle.regress_engine_code.specs.Standing.{program_of}
use Rattle.regress_engine_input.specs.Views.{input_of}
use Rattle.regress_engine_search.specs.Skipping.{Reaches}
use Rattle.regress_engine_leading.proofs.leading.behind_words.Given as goal

-- up to here nothing is found; whether a character of a word stands before it is told
abbrev pub invariant-loop-at : goal.invariant-loop-at
invariant-loop-at g l = record {
  reaches : Reaches (program_of l.program) (g.Input.InputIndexer.view l.input) l.start l.at;
  before : l.was ≡ word_at (g.Input.InputIndexer.view l.input).table false (point (input_of (g.Input.InputIndexer.view l.input)) Backward l.at);
}

abbrev pub decreases-loop-at : goal.decreases-loop-at
decreases-loop-at g l = length l.units - l.at
