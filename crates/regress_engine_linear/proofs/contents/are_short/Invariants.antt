use Rattle.std.specs.Prelude.{map}
use Rattle.std.proofs.Common.{◌≡◌, ◌+◌, length}
use Rattle.regress_engine_insn.specs.Instructions.{Program}
use Rattle.regress_engine_insn.specs.InsnViews.{instruction}
use Rattle.regress_engine_linear.proofs.OnceLemmas.{sizes-from}
use Rattle.regress_engine_linear.proofs.contents.are_short.Given as goal

-- so much is left for those from here on
abbrev pub invariant-loop-at : goal.invariant-loop-at
invariant-loop-at l = record {
  left : (program : Program) → program.instructions ≡ map instruction l.insns → sizes-from program l.insns 0 + l.left ≡ length l.insns + sizes-from program l.insns l.at;
}
