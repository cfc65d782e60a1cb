use Rattle.std.proofs.Common.{◌≡◌, nat_le, true, false, refl, arith}
use Rattle.std.proofs.Math.Bool.{and-false}
use Rattle.std.proofs.lemmas.Bool.Decides.{nat_tests}
use Rattle.regress_meaning.specs.Table.{last_code_point}
use Rattle.regress_meaning.specs.Tokens.{is_hex, number_of}
use Rattle.regress_front_tokens.proofs.TokenLemmas.{braces_at-is, some_length}
use Rattle.regress_front_tokens.proofs.cursor.Cursor.braced.Goals.{then-is_empty-via-then-is_empty, then-is_empty-via-else-is_empty+then-value, then-is_empty-via-else-is_empty+else-value+then-not-eat-2}
use Rattle.regress_front_tokens.proofs.cursor.Cursor.braced.Goals as goal

pub returns-then-not-eat-clause-read : goal.returns-then-not-eat-clause-read
returns-then-not-eat-clause-read c = (rw (braces_at-is, ← c.if-not-eat.ensures.found) refl, refl)

pub returns-then-is_empty-clause-read : goal.returns-then-is_empty-clause-read
returns-then-is_empty-clause-read c =
    let cut = c.take_while-digits.ensures.read is_hex (λ k r e. e) in
    let ds = c.take_while-digits.result.now in
    elim c.then-is_empty.branch [
      | then-is_empty-via-then-is_empty w ↦ (rw (braces_at-is, ← c.if-not-eat.ensures.found, ← c.if-not-eat.ensures.read, cut, some_length, ← c.is_empty.ensures, w.if-is_empty.true) refl, refl)
      | then-is_empty-via-else-is_empty+then-value w ↦
          let large : nat_le (number_of 16 ds) last_code_point ≡ false = grind (arith, nat_tests) in
          (rw (braces_at-is, ← c.if-not-eat.ensures.found, ← c.if-not-eat.ensures.read, cut, some_length, ← c.is_empty.ensures, w.if-is_empty.false, large, and-false) refl, refl)
      | then-is_empty-via-else-is_empty+else-value+then-not-eat-2 w ↦
          (rw (braces_at-is, ← c.if-not-eat.ensures.found, ← c.if-not-eat.ensures.read, cut, some_length, ← c.is_empty.ensures, w.if-is_empty.false, ← w.if-not-eat-2.ensures.found) refl, refl)
    ]

pub returns-clause-read : goal.returns-clause-read
returns-clause-read c =
    let cut = c.take_while-digits.ensures.read is_hex (λ k r e. e) in
    let ds = c.take_while-digits.result.now in
    let small : nat_le (number_of 16 ds) last_code_point ≡ true = grind (arith, nat_tests) in
    let value : c.number_of-value.result ≡ number_of 16 ds = grind arith in
    rw (braces_at-is, ← c.if-not-eat.ensures.found, ← c.if-not-eat.ensures.read, cut, some_length, ← c.is_empty.ensures, c.if-is_empty.false, ← c.if-not-eat-2.ensures.found, small, c.if-not-eat-2.ensures.read, value) refl
