use Rattle.std.proofs.Common.{◌≡◌, length}
use Rattle.regress_meaning.specs.Meaning.{Direction}
use Rattle.regress_meaning.specs.Inputs.{Input}
use Rattle.regress_engine_insn.specs.Instructions.{Program}
use Rattle.regress_engine_search.specs.Tasks.{outside_of}
use Rattle.regress_engine_undo.specs.Held.{held}
use Rattle.regress_engine_undo.specs.Tasks.{StaysSound}
use Rattle.regress_engine_undo.specs.Leaving.{work_of}
use Rattle.regress_engine_undo.proofs.memory.Memory.unwind.Given as goal

-- what is outside stays
abbrev pub invariant-loop-undo : goal.invariant-loop-undo
invariant-loop-undo l = record {
  rest : (program : Program) (input : Input) (dir : Direction) → outside_of (work_of program input dir (held l.initial.self)) ≡ outside_of (work_of program input dir (held l.self));
  sound : StaysSound (held l.initial.self) (held l.self);
}

abbrev pub decreases-loop-undo : goal.decreases-loop-undo
decreases-loop-undo l = length (held l.self).stack
