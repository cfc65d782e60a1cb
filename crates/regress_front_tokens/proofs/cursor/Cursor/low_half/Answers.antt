use Rattle.std.proofs.Common.{refl}
use Rattle.regress_front_tokens.proofs.TokenLemmas.{low_half-is}
use Rattle.regress_front_tokens.proofs.cursor.Cursor.low_half.Goals.{then-not-eat-via-then-not-eat, then-not-eat-via-else-not-eat+then-not-eat-2}
use Rattle.regress_front_tokens.proofs.cursor.Cursor.low_half.Goals as goal

pub returns-then-not-eat-clause-read : goal.returns-then-not-eat-clause-read
returns-then-not-eat-clause-read c = elim c.then-not-eat.branch [
  | then-not-eat-via-then-not-eat w ↦ (rw (low_half-is, ← w.if-not-eat.ensures.found) refl, refl)
  | then-not-eat-via-else-not-eat+then-not-eat-2 w ↦ (rw (low_half-is, ← w.if-not-eat.ensures.found, ← w.if-not-eat.ensures.read, ← w.if-not-eat-2.ensures.found) refl, refl)
]

pub returns-in_err-low-clause-read : goal.returns-in_err-low-clause-read
returns-in_err-low-clause-read c =
    rw c.from_residual.ensures (rw (low_half-is, ← c.if-not-eat.ensures.found, ← c.if-not-eat.ensures.read, ← c.if-not-eat-2.ensures.found, ← c.if-not-eat-2.ensures.read, c.in_err-low.ensures.read.0) refl, refl)

pub returns-then-not-is_low_surrogate-clause-read :
    goal.returns-then-not-is_low_surrogate-clause-read
returns-then-not-is_low_surrogate-clause-read c =
    (rw (low_half-is, ← c.if-not-eat.ensures.found, ← c.if-not-eat.ensures.read, ← c.if-not-eat-2.ensures.found, ← c.if-not-eat-2.ensures.read, c.in_ok-low.ensures.read, ← c.if-not-is_low_surrogate.ensures) refl, refl)

pub returns-clause-read : goal.returns-clause-read
returns-clause-read c =
    rw (low_half-is, ← c.if-not-eat.ensures.found, ← c.if-not-eat.ensures.read, ← c.if-not-eat-2.ensures.found, ← c.if-not-eat-2.ensures.read, c.in_ok-low.ensures.read, ← c.if-not-is_low_surrogate.ensures) refl
