use Rattle.regress_engine_code.specs.Standing.{program_of}
use Rattle.regress_engine_runs.specs.UndoStack.{take_on}
use Rattle.regress_engine_search.specs.Ready.{IsBody}
use Rattle.regress_engine_undo.specs.declared.undo.Spot.{Spot}
use Rattle.regress_engine_undo.specs.Held.{held, pushed}
use Rattle.std.proofs.Common.{◌≡◌, false, ◌⊎◌}
use Rattle.regress_engine_trying.specs.Trying.{GoesBack}
use Rattle.regress_engine_trying.specs.Passing.{UndoesOver}
use Rattle.regress_engine_attempt.proofs.attempt.Attempt.exit_ahead.Given as goal

-- what is taken on from the first offset leads to what is taken on from here
abbrev pub invariant-places : goal.invariant-places
invariant-places g l = record {
  over : (p : Spot) → p.forward ≡ l.forward
      → GoesBack (record { program = program_of l.self.program.now; view = g.Input.InputIndexer.view l.self.input }) p (pushed (take_on l.at l.offset l.left) (held l.memory)) p (pushed (take_on l.at l.near l.rest) (held l.memory)) false;
  more : (l.near ≡ l.offset) ⊎ ((p : Spot) → p.forward ≡ l.forward
      → UndoesOver (record { program = program_of l.self.program.now; view = g.Input.InputIndexer.view l.self.input }) (take_on l.at l.offset l.left) p (held l.memory) p (pushed (take_on l.at l.near l.rest) (held l.memory)) false);
  body : IsBody (program_of l.self.program.now) (g.Input.InputIndexer.view l.self.input) l.at l.near;
}

abbrev pub decreases-places : goal.decreases-places
decreases-places g l = l.rest
