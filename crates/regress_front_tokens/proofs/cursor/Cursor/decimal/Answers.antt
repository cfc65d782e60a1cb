use Rattle.std.proofs.Common.{sym, ◌∙◌}
use Rattle.regress_meaning.specs.Class.{is_digit}
use Rattle.regress_front_tokens.proofs.TokenLemmas.{count_at-some, count_at-none}
use Rattle.regress_front_tokens.proofs.cursor.Cursor.decimal.Goals as goal

pub returns-then-is_empty-clause-read : goal.returns-then-is_empty-clause-read
returns-then-is_empty-clause-read c =
    count_at-none _ (c.take_while-digits.ensures.read is_digit (λ k r e. e)) (sym c.is_empty.ensures ∙ c.if-is_empty.true)

pub returns-clause-read : goal.returns-clause-read
returns-clause-read c =
    let is = count_at-some _ (c.take_while-digits.ensures.read is_digit (λ k r e. e)) (sym c.is_empty.ensures ∙ c.if-is_empty.false) in
    rw (c.number_of.ensures) is
