use Rattle.std.proofs.Common.{◌≡◌, ◌+◌, []}
use Rattle.regress_engine_code.specs.Standing.{program_of}
use Rattle.regress_engine_input.specs.Views.{direction_of, input_of, reading_of}
use Rattle.regress_engine_insn.specs.InsnViews.{instruction}
use Rattle.regress_engine_runs.specs.Meets.{IsAtPlace}
use Rattle.regress_engine_runs.specs.Runs.{one_by_one}
use Rattle.regress_engine_answers.specs.AnswerTables.{ends_by}
use Rattle.regress_engine_ways.specs.Ways.{preferred, preferred_of}
use Rattle.regress_engine_answers.proofs.answers.Answering.end_among.Given as goal

-- what was found, and what is found from here on, is what is found of all
abbrev pub invariant-exits : goal.invariant-exits
invariant-exits g l = record {
  same : preferred l.greedy l.found (preferred_of (ends_by l.answers (l.at + 2)) l.greedy
      (one_by_one (program_of l.self.program.now) (input_of (g.Input.InputIndexer.view l.self.input)) l.left (instruction l.body) (direction_of l.forward) [] l.behind))
      ≡ preferred_of (ends_by l.answers (l.at + 2)) l.greedy
      (one_by_one (program_of l.self.program.now) (input_of (g.Input.InputIndexer.view l.self.input)) l.times (instruction l.body) (direction_of l.forward) [] l.offset);
  place : IsAtPlace (reading_of (g.Input.InputIndexer.view l.self.input)) l.behind;
}

abbrev pub decreases-exits : goal.decreases-exits
decreases-exits g l = l.left
