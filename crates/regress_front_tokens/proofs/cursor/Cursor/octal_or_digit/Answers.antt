use Rattle.std.proofs.Common.{sym, ◌∙◌}
use Rattle.regress_front_tokens.proofs.EscapeLemmas.{octal_or_digit-unicode, octal_or_digit-octal, octal_or_digit-digit}
use Rattle.regress_front_tokens.proofs.cursor.Cursor.octal_or_digit.Goals as goal

pub returns-then-mode-clause-read : goal.returns-then-mode-clause-read
returns-then-mode-clause-read c = octal_or_digit-unicode _ _ c.if-mode.true

pub returns-in-Some-clause-read : goal.returns-in-Some-clause-read
returns-in-Some-clause-read c = octal_or_digit-octal _ _ c.if-mode.false c.in-Some.ensures.read

pub returns-in-Some-next-clause-read : goal.returns-in-Some-next-clause-read
returns-in-Some-next-clause-read c =
    octal_or_digit-digit _ _ _ _ c.if-mode.false c.in_default.ensures.read.0 (sym c.in_default.ensures.read.1 ∙ c.in-Some-next.ensures.read)
