use Rattle.std.proofs.Common.{◌≡◌, ℕ, [], map}
use Rattle.regress_engine_insn.specs.Instructions.{Program}
use Rattle.regress_engine_insn.specs.InsnViews.{instruction}
use Rattle.regress_engine_analysis.specs.Planned.{IsSo, firsts, known_of}
use Rattle.regress_engine_analysis.specs.Shared.{shared}
use Rattle.regress_engine_analysis.proofs.ways.add_ways.Given as goal

-- the first bytes stay, and what is known is so, with the tables so far
abbrev pub invariant-loop-at : goal.invariant-loop-at
invariant-loop-at l = record {
  same : firsts (shared l.facts) ≡ firsts (shared l.fn.facts);
  known : (program : Program) → program.instructions ≡ map instruction l.insns
      → ((k : ℕ) → IsSo program (firsts (shared l.fn.facts)) [] k (known_of (shared l.fn.facts) k))
      → (k : ℕ) → IsSo program (firsts (shared l.fn.facts)) l.tables.items k (known_of (shared l.facts) k);
}
