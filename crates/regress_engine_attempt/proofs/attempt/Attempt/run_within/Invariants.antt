use Rattle.std.proofs.Common.{suc, true}
use Rattle.regress_engine_code.specs.Standing.{program_of}
use Rattle.regress_engine_input.specs.Views.{input_of}
use Rattle.regress_engine_search.specs.Tasks.{left_of}
use Rattle.regress_engine_undo.specs.Held.{held}
use Rattle.regress_engine_undo.specs.Tasks.{task}
use Rattle.regress_engine_trying.specs.Trying.{IsTrying}
use Rattle.regress_engine_attempt.specs.Attempts.{Remembers}
use Rattle.regress_engine_trying.proofs.CountLemmas.{CountsOn}
use Rattle.regress_engine_attempt.proofs.attempt.Attempt.run_within.Given as goal

-- the run is tried, no more steps were counted than it took, and what is remembered is so
abbrev pub invariant-steps : goal.invariant-steps
invariant-steps g l = record {
  trying : IsTrying (program_of l.self.program.now) (g.Input.InputIndexer.view l.self.input) l.self.ends.0.0 l.self.ends.0.1 l.spot (held l.memory);
  counted : CountsOn (program_of l.self.program.now) (g.Input.InputIndexer.view l.self.input) l.self.ends.0.0 l.self.ends.0.1 (g.B.Budget.left l.initial.budget) (g.B.Budget.left l.budget) l.remembered.counts.more
      (task (program_of l.self.program.now) (input_of (g.Input.InputIndexer.view l.self.input)) true l.spot (held l.memory));
  so : Remembers (record { program = program_of l.self.program.now; view = g.Input.InputIndexer.view l.self.input }) l.remembered;
}

abbrev pub decreases-steps : goal.decreases-steps
decreases-steps g l =
    left_of (program_of l.self.program.now) (input_of (g.Input.InputIndexer.view l.self.input)) (suc l.self.ends.0.0)
    (task (program_of l.self.program.now) (input_of (g.Input.InputIndexer.view l.self.input)) true l.spot (held l.memory))
