use Rattle.std.proofs.Common.{◌≡◌, ◌++◌, map}
use Rattle.regress_engine_insn.specs.InsnViews.{instruction}
use Rattle.regress_engine_code.specs.Standing.{program_of}
use Rattle.regress_engine_input.specs.Views.{direction_of, input_of, reading_of}
use Rattle.regress_engine_runs.specs.Runs.{one_by_one}
use Rattle.regress_engine_runs.specs.Meets.{IsAtPlace}
use Rattle.regress_engine_search.specs.StateViews.{marks_of}
use Rattle.regress_engine_copying.proofs.attempt.Attempt.collect.Given as goal

-- those collected, and those from here on
abbrev pub invariant-iterations : goal.invariant-iterations
invariant-iterations g l = record {
  rest : l.ends.items ++ one_by_one (program_of l.self.program.now) (input_of (g.Input.InputIndexer.view l.self.input)) l.left (instruction l.insn) (direction_of l.forward) (map marks_of l.groups) l.behind
      ≡ one_by_one (program_of l.self.program.now) (input_of (g.Input.InputIndexer.view l.self.input)) l.times (instruction l.insn) (direction_of l.forward) (map marks_of l.groups) l.offset;
  place : IsAtPlace (reading_of (g.Input.InputIndexer.view l.self.input)) l.behind;
}

abbrev pub decreases-iterations : goal.decreases-iterations
decreases-iterations g l = l.left
