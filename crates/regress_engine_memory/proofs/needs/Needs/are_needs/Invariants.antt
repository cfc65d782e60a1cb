use Rattle.std.specs.Prelude.{map}
use Rattle.std.proofs.Common.{◌≡◌}
use Rattle.regress_engine_insn.specs.Instructions.{Program}
use Rattle.regress_engine_insn.specs.InsnViews.{instruction}
use Rattle.regress_engine_memory.specs.Needs.{are_needs, needs_at}
use Rattle.regress_engine_memory.proofs.TableLemmas.{tested}
use Rattle.regress_engine_memory.proofs.needs.Needs.are_needs.Given as goal

-- the instructions so far need no more than is told
abbrev pub invariant-loop-at : goal.invariant-loop-at
invariant-loop-at l = record {
  left : (program : Program) → program.instructions ≡ map instruction l.insns → tested (needs_at l.self.units.items program) l.insns l.at ≡ are_needs l.self.units.items program;
}
