use Rattle.std.proofs.Common.{◌≡◌, ◌-◌, ◌^◌, ◌<◌, length, map}
use Rattle.regress_engine_insn.specs.Instructions.{Program}
use Rattle.regress_engine_insn.specs.InsnViews.{instruction}
use Rattle.regress_engine_analysis.specs.Planned.{firsts}
use Rattle.regress_engine_analysis.specs.Shared.{shared}
use Rattle.regress_engine_analysis.specs.Ways.{way_before}
use Rattle.regress_engine_analysis.proofs.WaysLemmas.{GoesOn}
use Rattle.regress_engine_analysis.proofs.ways.way_ahead.Given as goal

-- it goes on from here in so many steps, enough of them, at an address of 32 bits
abbrev pub invariant-ways : goal.invariant-ways
invariant-ways l = record {
  told : (program : Program) → program.instructions ≡ map instruction l.insns → GoesOn program (firsts (shared l.facts)) l.byte l.at (way_before program (firsts (shared l.facts)) l.byte l.start);
  fits : l.start < 2 ^ 32 → l.at < 2 ^ 32;
}

-- the addresses that are left
abbrev pub decreases-ways : goal.decreases-ways
decreases-ways l = length l.insns - l.at
