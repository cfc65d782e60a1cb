use Rattle.std.proofs.Common.{◌≡◌, None, map}
use Rattle.regress_engine_code.specs.Standing.{program_of}
use Rattle.regress_engine_input.specs.Views.{direction_of, input_of, reading_of}
use Rattle.regress_engine_insn.specs.InsnViews.{instruction}
use Rattle.regress_engine_runs.specs.Runs.{one_by_one}
use Rattle.regress_engine_runs.specs.Meets.{IsAtPlace}
use Rattle.regress_engine_search.specs.StateViews.{marks_of}
use Rattle.regress_engine_answers.specs.AnswerTables.{told_by}
use Rattle.regress_engine_linear.specs.Answered.{last_at}
use Rattle.regress_engine_walks.proofs.walking.far_exit.Given as goal

-- what is found from here on is what is found of all
abbrev pub invariant-places : goal.invariant-places
invariant-places g l = record {
  same : last_at (told_by l.answers) l.at (one_by_one (program_of l.answering.program.now) (input_of (g.Input.InputIndexer.view l.answering.input)) l.rest (instruction l.body) (direction_of l.forward) (map marks_of l.answering.groups.now) l.behind) l.found
      ≡ last_at (told_by l.answers) l.at (one_by_one (program_of l.answering.program.now) (input_of (g.Input.InputIndexer.view l.answering.input)) l.left (instruction l.body) (direction_of l.forward) (map marks_of l.answering.groups.now) l.near) None;
  place : IsAtPlace (reading_of (g.Input.InputIndexer.view l.answering.input)) l.behind;
}

abbrev pub decreases-places : goal.decreases-places
decreases-places g l = l.rest
