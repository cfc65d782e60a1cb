use Rattle.std.proofs.Common.{suc, []}
use Rattle.regress_engine_code.specs.Standing.{program_of}
use Rattle.regress_engine_input.specs.Views.{input_of}
use Rattle.regress_engine_search.specs.Tasks.{IsTried, left_of}
use Rattle.regress_engine_copying.specs.Held.{held}
use Rattle.regress_engine_copying.specs.Sound.{AreSound}
use Rattle.regress_engine_copying.specs.Tasks.{task_of}
use Rattle.regress_engine_copying.proofs.attempt.Attempt.run.Given as goal

-- the run is tried
abbrev pub invariant-loop-state : goal.invariant-loop-state
invariant-loop-state g l = record {
  tried : IsTried (program_of l.self.program.now) (g.Input.InputIndexer.view l.self.input) l.self.ends.0.0 l.self.ends.0.1 (task_of [] (held l.stack));
  sound : AreSound (program_of l.self.program.now) (held l.stack).entries;
}

abbrev pub decreases-loop-state : goal.decreases-loop-state
decreases-loop-state g l =
    left_of (program_of l.self.program.now) (input_of (g.Input.InputIndexer.view l.self.input)) (suc l.self.ends.0.0) (task_of [] (held l.stack))
