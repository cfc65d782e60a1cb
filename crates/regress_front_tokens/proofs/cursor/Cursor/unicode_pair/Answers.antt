use Rattle.std.proofs.Common.{refl}
use Rattle.regress_meaning.specs.Tokens.{pair_at}
use Rattle.regress_front_tokens.proofs.TokenLemmas.{pair-from_half}
use Rattle.regress_front_tokens.proofs.cursor.Cursor.unicode_pair.Goals as goal

pub returns-in_err-unit-clause-read : goal.returns-in_err-unit-clause-read
unfolding pair_at
returns-in_err-unit-clause-read c =
    rw c.from_residual.ensures (rw c.in_err-unit.ensures.read.0 refl, c.in_err-unit.ensures.read.1)

pub returns-then-not-is_high_surrogate-clause-read :
    goal.returns-then-not-is_high_surrogate-clause-read
unfolding pair_at
returns-then-not-is_high_surrogate-clause-read c =
    rw (c.in_ok-unit.ensures.read, ← c.if-not-is_high_surrogate.ensures) refl

pub returns-clause-read : goal.returns-clause-read
unfolding pair_at
returns-clause-read c =
    rw (c.in_ok-unit.ensures.read, ← c.if-not-is_high_surrogate.ensures, c.unwrap_or.ensures)
    (pair-from_half c.in_ok-unit.unit _ c.low_half.result _ c.low_half.ensures.read)
