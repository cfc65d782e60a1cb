use Rattle.std.proofs.Common.{◌≡◌, sym, ◌∙◌, ◌≤◌, length, arith}
use Rattle.regress_meaning.specs.Tokens.{is_octal, number_of}
use Rattle.regress_front_tokens.specs.Cursors.{unread}
use Rattle.regress_front_tokens.proofs.TokenLemmas.{octal_at-none, octal_at-some, octal_length-le}
use Rattle.regress_front_tokens.proofs.SpanLemmas.{span_up_to-passes, span_up_to-short}
use Rattle.regress_front_tokens.proofs.NumberLemmas.{number_of-below, octal-below}
use Rattle.regress_front_tokens.proofs.cursor.Cursor.octal.Goals as goal

pub returns-then-is_empty-clause-read : goal.returns-then-is_empty-clause-read
returns-then-is_empty-clause-read c =
    octal_at-none _ _ (sym c.most_octal_digits.ensures) (c.take_up_to-digits.ensures.read is_octal (λ k r e. e)) (sym c.is_empty.ensures ∙ c.if-is_empty.true)

pub overflow_cast-result : goal.overflow_cast-result
overflow_cast-result c =
    let cut = c.take_up_to-digits.ensures.read is_octal (λ k r e. e) in
    let most = octal_length-le (unread c.args.self.now) _ c.most_octal_digits.ensures in
    let short : length c.take_up_to-digits.result.now ≤ 3 = omega (arith, span_up_to-short _ is_octal _ cut, most) in
    let below = number_of-below is_octal 7 3 octal-below c.take_up_to-digits.result.now (span_up_to-passes _ is_octal _ cut) short in
    omega (arith, below)

pub returns-clause-read : goal.returns-clause-read
returns-clause-read c =
    let cut = c.take_up_to-digits.ensures.read is_octal (λ k r e. e) in
    let most = octal_length-le (unread c.args.self.now) _ c.most_octal_digits.ensures in
    let short : length c.take_up_to-digits.result.now ≤ 3 = omega (arith, span_up_to-short _ is_octal _ cut, most) in
    let below = number_of-below is_octal 7 3 octal-below c.take_up_to-digits.result.now (span_up_to-passes _ is_octal _ cut) short in
    let is = octal_at-some _ _ (sym c.most_octal_digits.ensures) cut (sym c.is_empty.ensures ∙ c.if-is_empty.false) in
    let value : c.number_of.result ≡ number_of 8 c.take_up_to-digits.result.now = omega (arith, below) in
    rw value is
