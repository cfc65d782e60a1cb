use Rattle.std.proofs.Common.{◌≡◌, length}
use Rattle.regress_engine_insn.specs.Instructions.{Program}
use Rattle.regress_engine_search.specs.Tasks.{outside_of}
use Rattle.regress_engine_copying.specs.Held.{held}
use Rattle.regress_engine_copying.specs.Sound.{AreSound}
use Rattle.regress_engine_copying.specs.Tasks.{work_of}
use Rattle.regress_engine_copying.proofs.stack.Stack.unwind.Given as goal

-- the same is outside
abbrev pub invariant-loop-pending : goal.invariant-loop-pending
invariant-loop-pending l = record {
  outside : outside_of (work_of (held l.initial.self).entries) ≡ outside_of (work_of (held l.self).entries);
  sound : (program : Program) → AreSound program (held l.initial.self).entries → AreSound program (held l.self).entries;
}

abbrev pub decreases-loop-pending : goal.decreases-loop-pending
decreases-loop-pending l = length (held l.self).entries
