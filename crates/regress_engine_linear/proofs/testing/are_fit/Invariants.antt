use Rattle.std.specs.Prelude.{map}
use Rattle.std.proofs.Common.{◌≡◌}
use Rattle.regress_engine_insn.specs.Instructions.{Program}
use Rattle.regress_engine_insn.specs.InsnViews.{instruction}
use Rattle.regress_engine_memory.specs.Passing.{all_pass}
use Rattle.regress_engine_memory.specs.TableViews.{table_of}
use Rattle.regress_engine_memory.proofs.TableLemmas.{tested}
use Rattle.regress_engine_linear.specs.LinearTests.{fits_at}
use Rattle.regress_engine_linear.proofs.testing.are_fit.Given as goal

-- the instructions so far fit
abbrev pub invariant-loop-at : goal.invariant-loop-at
invariant-loop-at l = record {
  left : (program : Program) → program.instructions ≡ map instruction l.insns → tested (fits_at (table_of l.flow)) l.insns l.at ≡ all_pass (fits_at (table_of l.flow)) 0 program.instructions;
}
