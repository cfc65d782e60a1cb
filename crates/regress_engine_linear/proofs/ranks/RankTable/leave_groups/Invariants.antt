use Rattle.std.specs.Prelude.{map}
use Rattle.std.proofs.Common.{◌≡◌}
use Rattle.regress_engine_insn.specs.Instructions.{Program}
use Rattle.regress_engine_insn.specs.InsnViews.{instruction}
use Rattle.regress_engine_memory.specs.Passing.{all_pass}
use Rattle.regress_engine_memory.proofs.TableLemmas.{tested}
use Rattle.regress_engine_linear.specs.LinearTests.{AreOnce, leaves_groups}
use Rattle.regress_engine_linear.specs.RankTables.{heights_of}
use Rattle.regress_engine_linear.proofs.ranks.RankTable.leave_groups.Given as goal

-- the instructions so far do
abbrev pub invariant-loop-at : goal.invariant-loop-at
invariant-loop-at l = record {
  left : (program : Program) → program.instructions ≡ map instruction l.insns → AreOnce l.once program
      → tested (leaves_groups (heights_of l.self) program) l.insns l.at ≡ all_pass (leaves_groups (heights_of l.self) program) 0 program.instructions;
}
