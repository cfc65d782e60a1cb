use Rattle.std.proofs.Common.{false, length}
use Rattle.regress_engine_code.specs.Standing.{program_of}
use Rattle.regress_engine_input.specs.Views.{input_of}
use Rattle.regress_engine_search.specs.Tasks.{Leads}
use Rattle.regress_engine_undo.specs.Held.{held}
use Rattle.regress_engine_undo.specs.Sound.{IsHeld}
use Rattle.regress_engine_undo.specs.Tasks.{task}
use Rattle.regress_engine_attempt.specs.Attempts.{Remembers}
use Rattle.regress_engine_trying.specs.Passing.{GoesBackMore}
use Rattle.regress_engine_attempt.proofs.attempt.Attempt.back.Given as goal

-- what was to be done leads to what is to be done
abbrev pub invariant-loop-undo : goal.invariant-loop-undo
invariant-loop-undo g l = record {
  leads : Leads (program_of l.self.program.now) (input_of (g.Input.InputIndexer.view l.self.input)) 0
      (task (program_of l.self.program.now) (input_of (g.Input.InputIndexer.view l.self.input)) false l.initial.spot (held l.initial.memory))
      (task (program_of l.self.program.now) (input_of (g.Input.InputIndexer.view l.self.input)) false l.spot (held l.memory));
  more : GoesBackMore (record { program = program_of l.self.program.now; view = g.Input.InputIndexer.view l.self.input }) l.initial.spot (held l.initial.memory) l.spot (held l.memory) false l.initial.remembered.counts.more l.remembered.counts.more;
  sound : IsHeld (program_of l.self.program.now) (g.Input.InputIndexer.view l.self.input) (held l.memory);
  so : Remembers (record { program = program_of l.self.program.now; view = g.Input.InputIndexer.view l.self.input }) l.remembered;
}

abbrev pub decreases-loop-undo : goal.decreases-loop-undo
decreases-loop-undo g l = length (held l.memory).stack
