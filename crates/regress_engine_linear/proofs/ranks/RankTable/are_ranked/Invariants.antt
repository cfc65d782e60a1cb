use Rattle.std.specs.Prelude.{map}
use Rattle.std.proofs.Common.{◌≡◌}
use Rattle.regress_engine_insn.specs.Instructions.{Program}
use Rattle.regress_engine_insn.specs.InsnViews.{instruction}
use Rattle.regress_engine_memory.specs.TableViews.{table_of}
use Rattle.regress_engine_memory.proofs.TableLemmas.{tested}
use Rattle.regress_engine_linear.specs.RankTables.{are_ranked, heights_of, ranks_if_calm}
use Rattle.regress_engine_linear.proofs.ranks.RankTable.are_ranked.Given as goal

-- the instructions so far are ranked
abbrev pub invariant-loop-at : goal.invariant-loop-at
invariant-loop-at l = record {
  left : (program : Program) → program.instructions ≡ map instruction l.insns
      → tested (ranks_if_calm (heights_of l.self) (table_of l.flow) program) l.insns l.at ≡ are_ranked (heights_of l.self) (table_of l.flow) program;
}
