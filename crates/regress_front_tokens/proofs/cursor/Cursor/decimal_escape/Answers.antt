use Rattle.std.proofs.Common.{arith}
use Rattle.regress_meaning.specs.Tokens.{decimal_escape, octal_or_digit}
use Rattle.regress_front_tokens.specs.Escapes.{mode_view, escape_view, from_first}
use Rattle.regress_front_tokens.proofs.EscapeLemmas.{IsRead-same, length-names, decimal_escape-none, decimal_escape-group, decimal_escape-other}
use Rattle.regress_front_tokens.proofs.cursor.Cursor.decimal_escape.Goals as goal

pub returns-in_default-clause-read : goal.returns-in_default-clause-read
returns-in_default-clause-read c = decimal_escape-none _ _ c.in_default.ensures.read.0

pub returns-then-number-len-clause-read : goal.returns-then-number-len-clause-read
returns-then-number-len-clause-read c =
    let names = length-names c.args.mode.now in
    rw (c.in_ok-from_slice.ensures.ok, c.saturating_sub-group.ensures)
    (decimal_escape-group (mode_view c.args.mode.now) _ c.in-Some.ensures.read (omega (arith, names)) (omega (arith, names)))

pub returns-clause-read : goal.returns-clause-read
returns-clause-read c =
    let m = mode_view c.args.mode.now in
    let names = length-names c.args.mode.now in
    IsRead-same escape_view (from_first (decimal_escape m)) (from_first (octal_or_digit m)) _ c.octal_or_digit.result _
    (decimal_escape-other m _ c.in-Some.ensures.read (omega (arith, names))) c.octal_or_digit.ensures.read
