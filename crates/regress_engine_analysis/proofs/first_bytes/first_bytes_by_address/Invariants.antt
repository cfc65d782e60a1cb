use Rattle.std.proofs.Common.{◌≡◌, ℕ, Bool, ◌<◌, ◌≤◌, length}
use Rattle.regress_engine_insn.specs.ProgramViews.{program_from}
use Rattle.regress_engine_analysis.specs.MayBegin.{begins_at, may_begin_with}
use Rattle.regress_engine_analysis.specs.Planned.{firsts, known_of}
use Rattle.regress_engine_analysis.specs.Shared.{shared}
use Rattle.regress_engine_analysis.specs.declared.facts.Known.TheVariants.{Nothing}
use Rattle.regress_engine_analysis.proofs.first_bytes.first_bytes_by_address.Given as goal

-- The sets from an address on are told, whatever else the program has.
abbrev pub invariant-addresses : goal.invariant-addresses
invariant-addresses l = record {
  size : length (shared l.facts) ≡ length l.insns;
  slots : length l.late ≡ 64;
  low : l.left ≤ length l.insns;
  known : (at : ℕ) → known_of (shared l.facts) at ≡ Nothing;
  told : (loops groups : ℕ) (units : Bool) (at b : ℕ) → l.left ≤ at → at < length (shared l.facts) → b < 256
      → may_begin_with (firsts (shared l.facts)) at b ≡ begins_at (program_from l.insns l.brackets loops groups units) (may_begin_with (firsts (shared l.facts))) at b;
}

-- the addresses that are left
abbrev pub decreases-addresses : goal.decreases-addresses
decreases-addresses l = l.left
