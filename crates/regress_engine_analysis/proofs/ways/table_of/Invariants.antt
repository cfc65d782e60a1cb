use Rattle.std.specs.Prelude.{slice_index}
use Rattle.std.proofs.Common.{◌≡◌, ℕ, ◌<◌, length, map}
use Rattle.regress_engine_insn.specs.Instructions.{Program}
use Rattle.regress_engine_insn.specs.InsnViews.{instruction}
use Rattle.regress_engine_analysis.specs.Planned.{firsts}
use Rattle.regress_engine_analysis.specs.Shared.{shared}
use Rattle.regress_engine_analysis.specs.Ways.{way_before}
use Rattle.regress_engine_analysis.proofs.ways.table_of.Given as goal

-- where it goes on before the characters so far
abbrev pub invariant-loop-byte : goal.invariant-loop-byte
invariant-loop-byte l = record {
  size : length l.table ≡ 128;
  led : (program : Program) → program.instructions ≡ map instruction l.insns → (b : ℕ) → b < l.byte → slice_index l.table b ≡ way_before program (firsts (shared l.facts)) b l.at;
}
