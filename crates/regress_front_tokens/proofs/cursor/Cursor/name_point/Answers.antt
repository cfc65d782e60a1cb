use Rattle.std.proofs.Common.{refl}
use Rattle.regress_front_tokens.proofs.NameLemmas.{name_point-escaped, name_point-plain}
use Rattle.regress_front_tokens.proofs.cursor.Cursor.name_point.Goals as goal

pub returns-then-not-eat-clause-read : goal.returns-then-not-eat-clause-read
returns-then-not-eat-clause-read c =
    name_point-plain _ c.next.result _ c.if-not-eat.ensures.found c.next.ensures.read

pub returns-then-not-eat-2-clause-read : goal.returns-then-not-eat-2-clause-read
returns-then-not-eat-2-clause-read c =
    (rw (name_point-escaped _ c.if-not-eat.ensures.found, ← c.if-not-eat.ensures.read, ← c.if-not-eat-2.ensures.found) refl, refl)

pub returns-in_err-point-clause-read : goal.returns-in_err-point-clause-read
returns-in_err-point-clause-read c =
    rw c.from_residual.ensures
    (rw (name_point-escaped _ c.if-not-eat.ensures.found, ← c.if-not-eat.ensures.read, ← c.if-not-eat-2.ensures.found, ← c.if-not-eat-2.ensures.read, c.in_err-point.ensures.read.0) refl, refl)

pub returns-clause-read : goal.returns-clause-read
returns-clause-read c =
    rw (name_point-escaped _ c.if-not-eat.ensures.found, ← c.if-not-eat.ensures.read, ← c.if-not-eat-2.ensures.found, ← c.if-not-eat-2.ensures.read, c.in_ok-point.ensures.read) refl
