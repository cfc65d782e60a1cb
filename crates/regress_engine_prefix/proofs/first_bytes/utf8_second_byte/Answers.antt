use Rattle.std.proofs.Common.{arith}
use Rattle.regress_engine_prefix.proofs.SecondLemmas.{second-of}
use Rattle.regress_engine_prefix.proofs.first_bytes.utf8_second_byte.Goals as goal
use Rattle.regress_engine_prefix.proofs.first_bytes.utf8_second_byte.Goals.{then-cp-lt2048, else-cp-lt2048+then-cp-lt65536, else-cp-lt2048+else-cp-lt65536}

pub returns : goal.returns
returns c = elim c.if-cp-lt2048.branch [
  | then-cp-lt2048 w ↦
      second-of c.args.cp c.if-cp-lt2048.bits c.requires.0 (λ low. omega (arith, w.bits-is)) (λ low high. absurd (omega arith)) (λ low. absurd (omega arith))
  | else-cp-lt2048+then-cp-lt65536 w ↦
      second-of c.args.cp c.if-cp-lt2048.bits c.requires.0 (λ low. absurd (omega arith)) (λ low high. omega (arith, w.bits-is)) (λ low. absurd (omega arith))
  | else-cp-lt2048+else-cp-lt65536 w ↦
      second-of c.args.cp c.if-cp-lt2048.bits c.requires.0 (λ low. absurd (omega arith)) (λ low high. absurd (omega arith)) (λ low. omega (arith, w.bits-is))
]
