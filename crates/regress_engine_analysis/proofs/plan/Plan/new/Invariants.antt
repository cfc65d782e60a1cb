use Rattle.std.proofs.Common.{◌≡◌, ℕ, [], map}
use Rattle.regress_engine_insn.specs.Instructions.{Program}
use Rattle.regress_engine_insn.specs.InsnViews.{instruction}
use Rattle.regress_engine_analysis.specs.Planned.{IsSo, firsts, known_of}
use Rattle.regress_engine_analysis.specs.Shared.{shared}
use Rattle.regress_engine_analysis.proofs.plan.Plan.new.Given as goal

-- the first bytes stay, and what is known so far is so
abbrev pub invariant-loop-at : goal.invariant-loop-at
invariant-loop-at l = record {
  same : firsts (shared l.facts) ≡ firsts (shared l.initial.facts);
  known : (program : Program) → program.instructions ≡ map instruction l.insns → (at : ℕ) → IsSo program (firsts (shared l.initial.facts)) [] at (known_of (shared l.facts) at);
}
