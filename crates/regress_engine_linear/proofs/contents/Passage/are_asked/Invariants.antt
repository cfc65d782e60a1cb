use Rattle.std.specs.Prelude.{map}
use Rattle.std.proofs.Common.{◌≡◌}
use Rattle.regress_engine_insn.specs.Instructions.{Program}
use Rattle.regress_engine_insn.specs.InsnViews.{instruction}
use Rattle.regress_engine_memory.specs.Passing.{all_pass}
use Rattle.regress_engine_memory.proofs.TableLemmas.{tested}
use Rattle.regress_engine_linear.specs.LinearTests.{is_asked_inside}
use Rattle.regress_engine_linear.proofs.contents.Passage.are_asked.Given as goal

-- the instructions so far are as they are asked to be
abbrev pub invariant-loop-at : goal.invariant-loop-at
invariant-loop-at l = record {
  left : (program : Program) → program.instructions ≡ map instruction l.insns
      → tested (is_asked_inside l.asked l.self.at l.self.first l.self.last l.self.end) l.insns l.at ≡ all_pass (is_asked_inside l.asked l.self.at l.self.first l.self.last l.self.end) 0 program.instructions;
}
