use Rattle.std.proofs.Common.{◌-◌, ◌≡◌, ◌≤◌, List}
use Rattle.regress_meaning.specs.Meaning.{Forward as ahead}
use Rattle.regress_engine_input.specs.Views.{input_of}
use Rattle.regress_engine_insn.specs.Instructions.{Program, byte_seq}
use Rattle.regress_engine_runs.specs.States.{Marks}
use Rattle.regress_engine_runs.specs.Runs.{as_far}
use Rattle.regress_engine_singles.proofs.ahead.as_far_byte.Given as goal

-- what is left leads where all lead
abbrev pub invariant-loop-behind : goal.invariant-loop-behind
invariant-loop-behind g l = record {
  low : l.offset ≤ l.behind;
  high : l.behind ≤ l.end;
  rest : (program : Program) (groups : List Marks) → as_far program (input_of (g.Input.InputIndexer.view l.input)) (l.times - (l.behind - l.offset)) (byte_seq l.fn.bytes) ahead groups l.behind
      ≡ as_far program (input_of (g.Input.InputIndexer.view l.input)) l.times (byte_seq l.fn.bytes) ahead groups l.offset;
}

abbrev pub decreases-loop-behind : goal.decreases-loop-behind
decreases-loop-behind g l = l.end - l.behind
