use Rattle.std.proofs.Common.{◌≡◌, map}
use Rattle.regress_engine_insn.specs.InsnViews.{instruction}
use Rattle.regress_engine_code.specs.Standing.{program_of}
use Rattle.regress_engine_input.specs.Views.{direction_of, input_of, reading_of}
use Rattle.regress_engine_runs.specs.Runs.{as_far}
use Rattle.regress_engine_runs.specs.Meets.{IsAtPlace}
use Rattle.regress_engine_search.specs.StateViews.{marks_of}
use Rattle.regress_engine_advance.proofs.times.as_far_slowly.Given as goal

-- what is left leads where all lead
abbrev pub invariant-loop-left : goal.invariant-loop-left
invariant-loop-left g l = record {
  rest : as_far (program_of l.program) (input_of (g.Input.InputIndexer.view l.input)) l.left (instruction l.insn) (direction_of l.forward) (map marks_of l.groups) l.behind
      ≡ as_far (program_of l.program) (input_of (g.Input.InputIndexer.view l.input)) l.times (instruction l.insn) (direction_of l.forward) (map marks_of l.groups) l.offset;
  place : IsAtPlace (reading_of (g.Input.InputIndexer.view l.input)) l.behind;
}

abbrev pub decreases-loop-left : goal.decreases-loop-left
decreases-loop-left g l = l.left
