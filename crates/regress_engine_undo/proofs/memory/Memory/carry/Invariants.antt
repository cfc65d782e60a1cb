use Rattle.std.proofs.Common.{◌≡◌, ◌≤◌, length, map}
use Rattle.regress_meaning.specs.Meaning.{Direction}
use Rattle.regress_meaning.specs.Inputs.{Input}
use Rattle.regress_engine_insn.specs.Instructions.{Program}
use Rattle.regress_engine_runs.specs.States.{mixed}
use Rattle.regress_engine_search.specs.StateViews.{marks_of}
use Rattle.regress_engine_undo.specs.Held.{held}
use Rattle.regress_engine_undo.specs.Tasks.{StaysSound}
use Rattle.regress_engine_undo.specs.Leaving.{work_of}
use Rattle.regress_engine_undo.proofs.memory.Memory.carry.Given as goal

-- the groups so far
abbrev pub invariant-loop-group : goal.invariant-loop-group
invariant-loop-group l = record {
  loops : (held l.self).loops ≡ (held l.initial.self).loops;
  groups : (held l.self).groups ≡ mixed 0 l.first l.group (map marks_of l.others) (held l.initial.self).groups;
  count : length (held l.self).groups ≡ length (held l.initial.self).groups;
  same : (program : Program) (input : Input) (dir : Direction) → work_of program input dir (held l.self) ≡ work_of program input dir (held l.initial.self);
  none : l.last ≤ l.first → l.group ≡ l.first;
  sound : StaysSound (held l.initial.self) (held l.self);
}
