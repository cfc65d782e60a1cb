use Rattle.std.proofs.Common.{◌≡◌, refl, arith}
use Rattle.regress_meaning.specs.Tokens.{is_hex, number_of}
use Rattle.regress_front_tokens.proofs.TokenLemmas.{hex_at-none, hex_at-some}
use Rattle.regress_front_tokens.proofs.SpanLemmas.{span_up_to-passes}
use Rattle.regress_front_tokens.proofs.NumberLemmas.{number_of-below, hex-below}
use Rattle.regress_front_tokens.proofs.cursor.Cursor.hex.Goals as goal

pub returns-then-digits-count-clause-read : goal.returns-then-digits-count-clause-read
returns-then-digits-count-clause-read c =
    (hex_at-none c.args.count _ (c.take_up_to-digits.ensures.read is_hex (λ k r e. e)) c.if-digits-count.true, refl)

pub overflow_cast-result : goal.overflow_cast-result
overflow_cast-result c =
    let cut = c.take_up_to-digits.ensures.read is_hex (λ k r e. e) in
    let below = number_of-below is_hex 15 8 hex-below c.take_up_to-digits.result.now (span_up_to-passes _ is_hex _ cut) (omega arith) in
    omega (arith, below)

pub returns-clause-read : goal.returns-clause-read
returns-clause-read c =
    let cut = c.take_up_to-digits.ensures.read is_hex (λ k r e. e) in
    let below = number_of-below is_hex 15 8 hex-below c.take_up_to-digits.result.now (span_up_to-passes _ is_hex _ cut) (omega arith) in
    let is = hex_at-some c.args.count _ cut c.if-digits-count.false in
    let value : c.number_of.result ≡ number_of 16 c.take_up_to-digits.result.now = omega (arith, below) in
    rw value is
