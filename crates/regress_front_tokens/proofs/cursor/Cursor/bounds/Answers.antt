use Rattle.std.proofs.Common.{refl, ◌∙◌}
use Rattle.regress_front_tokens.proofs.TokenLemmas.{bounds_at-is}
use Rattle.regress_front_tokens.proofs.cursor.Cursor.bounds.Goals as goal

pub returns-then-eat-clause-read : goal.returns-then-eat-clause-read
returns-then-eat-clause-read c = rw (bounds_at-is, ← c.if-eat.ensures.found, c.if-eat.ensures.read) refl

pub returns-then-eat-2-clause-read : goal.returns-then-eat-2-clause-read
returns-then-eat-2-clause-read c =
    rw (bounds_at-is, ← c.if-eat.ensures.found, ← c.if-eat.ensures.read, ← c.if-eat-2.ensures.found, c.if-eat-2.ensures.read) refl

pub returns-then-eat-3-clause-read : goal.returns-then-eat-3-clause-read
returns-then-eat-3-clause-read c =
    rw (bounds_at-is, ← c.if-eat.ensures.found, ← c.if-eat.ensures.read, ← c.if-eat-2.ensures.found, ← c.if-eat-2.ensures.read, ← c.if-eat-3.ensures.found, c.if-eat-3.ensures.read) refl

pub returns-then-not-eat-clause-read : goal.returns-then-not-eat-clause-read
returns-then-not-eat-clause-read c = (
  rw (bounds_at-is, ← c.if-eat.ensures.found, ← c.if-eat.ensures.read, ← c.if-eat-2.ensures.found, ← c.if-eat-2.ensures.read, ← c.if-eat-3.ensures.found, ← c.if-eat-3.ensures.read, ← c.if-not-eat.ensures.found) refl,
  c.if-eat-3.ensures.read ∙ c.if-eat-2.ensures.read ∙ c.if-eat.ensures.read,
)

pub returns-in_err-bounds-clause-read : goal.returns-in_err-bounds-clause-read
returns-in_err-bounds-clause-read c =
    rw c.from_residual.ensures (
      rw (bounds_at-is, ← c.if-eat.ensures.found, ← c.if-eat.ensures.read, ← c.if-eat-2.ensures.found, ← c.if-eat-2.ensures.read, ← c.if-eat-3.ensures.found, ← c.if-eat-3.ensures.read, ← c.if-not-eat.ensures.found, ← c.if-not-eat.ensures.read) c.in_err-bounds.ensures.read.0,
      c.if-eat-3.ensures.read ∙ c.if-eat-2.ensures.read ∙ c.if-eat.ensures.read,
    )

pub returns-clause-read : goal.returns-clause-read
returns-clause-read c =
    rw (bounds_at-is, ← c.if-eat.ensures.found, ← c.if-eat.ensures.read, ← c.if-eat-2.ensures.found, ← c.if-eat-2.ensures.read, ← c.if-eat-3.ensures.found, ← c.if-eat-3.ensures.read, ← c.if-not-eat.ensures.found, ← c.if-not-eat.ensures.read) c.in_ok-bounds.ensures.read
