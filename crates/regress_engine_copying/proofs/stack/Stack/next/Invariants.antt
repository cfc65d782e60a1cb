use Rattle.std.proofs.Common.{[], length}
use Rattle.regress_meaning.specs.Inputs.{Input}
use Rattle.regress_engine_insn.specs.Instructions.{Program}
use Rattle.regress_engine_search.specs.Tasks.{Leads}
use Rattle.regress_engine_copying.specs.Held.{held}
use Rattle.regress_engine_copying.specs.Sound.{AreSound}
use Rattle.regress_engine_copying.specs.Tasks.{task_of}
use Rattle.regress_engine_copying.proofs.stack.Stack.next.Given as goal

-- what waited leads to what waits
abbrev pub invariant-loop-pending : goal.invariant-loop-pending
invariant-loop-pending l = record {
  leads : (program : Program) (input : Input) → Leads program input 0 (task_of [] (held l.initial.self)) (task_of [] (held l.self));
  sound : (program : Program) → AreSound program (held l.initial.self).entries → AreSound program (held l.self).entries;
}

abbrev pub decreases-loop-pending : goal.decreases-loop-pending
decreases-loop-pending l = length (held l.self).entries
