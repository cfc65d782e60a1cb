use Rattle.std.proofs.Common.{refl}
use Rattle.regress_meaning.specs.Class.{is_letter}
use Rattle.regress_front_tokens.proofs.EscapeLemmas.{escape_at-control}
use Rattle.regress_front_tokens.proofs.cursor.Cursor.control_escape.Goals as goal

pub returns-in-Some-clause-read : goal.returns-in-Some-clause-read
returns-in-Some-clause-read c =
    rw (escape_at-control _ _ c.requires, ← c.bump.ensures.read, c.in-Some.ensures.read is_letter (λ k r e. e)) refl

pub returns-then-mode-clause-read : goal.returns-then-mode-clause-read
returns-then-mode-clause-read c =
    rw (escape_at-control _ _ c.requires, ← c.bump.ensures.read, (c.in_default.ensures.read is_letter (λ k r e. e)).0, c.if-mode.true) refl

pub returns-clause-read : goal.returns-clause-read
returns-clause-read c =
    rw (escape_at-control _ _ c.requires, ← c.bump.ensures.read, (c.in_default.ensures.read is_letter (λ k r e. e)).0, c.if-mode.false, c.from.ensures) refl
