use Rattle.std.proofs.Common.{◌≡◌, ◌+◌, []}
use Rattle.regress_engine_code.specs.Standing.{program_of}
use Rattle.regress_engine_input.specs.Views.{direction_of, input_of, reading_of}
use Rattle.regress_engine_insn.specs.InsnViews.{instruction}
use Rattle.regress_engine_runs.specs.Meets.{IsAtPlace}
use Rattle.regress_engine_runs.specs.Runs.{one_by_one}
use Rattle.regress_engine_linear.specs.Answered.{one_at}
use Rattle.regress_engine_answers.specs.AnswerTables.{told_by}
use Rattle.regress_engine_answers.proofs.answers.Answering.is_exit_told.Given as goal

-- one of those that are left is told of if one of all is
abbrev pub invariant-loop-left : goal.invariant-loop-left
invariant-loop-left g l = record {
  rest : one_at (told_by l.answers) (l.at + 2) (one_by_one (program_of l.self.program.now) (input_of (g.Input.InputIndexer.view l.self.input)) l.left (instruction l.body) (direction_of l.forward) [] l.behind)
      ≡ one_at (told_by l.answers) (l.at + 2) (one_by_one (program_of l.self.program.now) (input_of (g.Input.InputIndexer.view l.self.input)) l.times (instruction l.body) (direction_of l.forward) [] l.offset);
  place : IsAtPlace (reading_of (g.Input.InputIndexer.view l.self.input)) l.behind;
}

abbrev pub decreases-loop-left : goal.decreases-loop-left
decreases-loop-left g l = l.left
