use Rattle.regress_engine_code.specs.Standing.{program_of}
use Rattle.regress_engine_input.specs.Views.{reading_of}
use Rattle.regress_engine_runs.specs.Meets.{IsAtPlace}
use Rattle.regress_engine_trying.specs.Remembering.{AreOf}
use Rattle.regress_engine_attempt.proofs.attempt.Attempt.learn_back.Given as goal

-- what is kept is so, and the offset is at a place
abbrev pub invariant-loop-passed : goal.invariant-loop-passed
invariant-loop-passed g l = record {
  so : AreOf (record { program = program_of l.self.program.now; view = g.Input.InputIndexer.view l.self.input }) l.failures;
  place : IsAtPlace (reading_of (g.Input.InputIndexer.view l.self.input)) l.offset;
}
