use Rattle.std.proofs.Common.{refl}
use Rattle.regress_meaning.specs.Tokens.{escape_at, decimal_escape, octal_or_digit}
use Rattle.regress_front_tokens.specs.Escapes.{mode_view, escape_view, from_first}
use Rattle.regress_front_tokens.proofs.EscapeLemmas.{IsRead-same, escape_at-digit, escape_at-zero}
use Rattle.regress_front_tokens.proofs.cursor.Cursor.number_escape.Goals as goal

pub returns-then-not-eat-clause-read : goal.returns-then-not-eat-clause-read
returns-then-not-eat-clause-read c =
    let m = mode_view c.args.mode.now in
    IsRead-same escape_view (escape_at m) (from_first (decimal_escape m)) _ c.decimal_escape.result _
    (escape_at-digit m _ c.requires.digit c.if-not-eat.ensures.found) c.decimal_escape.ensures.read

pub returns-then-is_at_digit-clause-read : goal.returns-then-is_at_digit-clause-read
returns-then-is_at_digit-clause-read c =
    let m = mode_view c.args.mode.now in
    IsRead-same escape_view (escape_at m) (from_first (octal_or_digit m)) _ c.octal_or_digit.result _
    (rw (escape_at-zero m _ c.if-not-eat.ensures.found, ← c.if-not-eat.ensures.read, ← c.if-is_at_digit.ensures) refl) c.octal_or_digit.ensures.read

pub returns-clause-read : goal.returns-clause-read
returns-clause-read c =
    rw (escape_at-zero _ _ c.if-not-eat.ensures.found, ← c.if-not-eat.ensures.read, ← c.if-is_at_digit.ensures) refl
