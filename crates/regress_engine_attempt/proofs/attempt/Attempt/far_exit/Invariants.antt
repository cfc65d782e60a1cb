use Rattle.std.proofs.Common.{◌≡◌, ◌+◌, ℕ, Some}
use Rattle.regress_engine_insn.specs.InsnViews.{instruction}
use Rattle.regress_engine_code.specs.Standing.{program_of}
use Rattle.regress_engine_input.specs.Views.{direction_of, input_of}
use Rattle.regress_engine_runs.specs.Runs.{after_times}
use Rattle.regress_engine_search.specs.Ready.{IsBody}
use Rattle.regress_engine_undo.specs.Held.{held}
use Rattle.regress_engine_attempt.proofs.attempt.Attempt.far_exit.Given as goal

-- so many iterations were taken, and so many are left
abbrev pub invariant-places : goal.invariant-places
invariant-places g l = record {
  after : (m : ℕ) × (m + l.rest ≡ l.left)
      × (after_times (program_of l.self.program.now) (input_of (g.Input.InputIndexer.view l.self.input)) m (instruction l.body) (direction_of l.forward) (held l.memory).groups l.near ≡ Some l.far);
  body : IsBody (program_of l.self.program.now) (g.Input.InputIndexer.view l.self.input) l.at l.far;
}

abbrev pub decreases-places : goal.decreases-places
decreases-places g l = l.rest
