use Rattle.std.proofs.Common.{refl, rules}
use Rattle.regress_meaning.specs.Class.{is_ascii_word}
use Rattle.regress_front_tokens.proofs.NameLemmas.{key_at-is}
use Rattle.regress_front_tokens.proofs.cursor.Cursor.key_parts.Goals.{then-is_empty-2-via-then-is_empty-2, then-is_empty-2-via-else-is_empty-2+then-not-eat-3}
use Rattle.regress_front_tokens.proofs.cursor.Cursor.key_parts.Goals as goal

pub returns-then-not-eat-clause-read : goal.returns-then-not-eat-clause-read
returns-then-not-eat-clause-read c = (rw (key_at-is, ← c.if-not-eat.ensures.found) refl, refl)

pub returns-then-is_empty-clause-read : goal.returns-then-is_empty-clause-read
returns-then-is_empty-clause-read c =
    let name = c.take_while-name.ensures.read is_ascii_word (λ k r e. search rules) in
    (rw (key_at-is, ← c.if-not-eat.ensures.found, ← c.if-not-eat.ensures.read, name, ← c.is_empty.ensures, c.if-is_empty.true) refl, refl)

pub returns-then-eat-clause-read : goal.returns-then-eat-clause-read
returns-then-eat-clause-read c =
    let name = c.take_while-name.ensures.read is_ascii_word (λ k r e. search rules) in
    rw (key_at-is, ← c.if-not-eat.ensures.found, ← c.if-not-eat.ensures.read, name, ← c.is_empty.ensures, c.if-is_empty.false, ← c.if-eat.ensures.found, c.if-eat.ensures.read) refl

pub returns-then-not-eat-2-clause-read : goal.returns-then-not-eat-2-clause-read
returns-then-not-eat-2-clause-read c =
    let name = c.take_while-name.ensures.read is_ascii_word (λ k r e. search rules) in
    (rw (key_at-is, ← c.if-not-eat.ensures.found, ← c.if-not-eat.ensures.read, name, ← c.is_empty.ensures, c.if-is_empty.false, ← c.if-eat.ensures.found, ← c.if-eat.ensures.read, ← c.if-not-eat-2.ensures.found) refl, refl)

pub returns-then-is_empty-2-clause-read : goal.returns-then-is_empty-2-clause-read
returns-then-is_empty-2-clause-read c =
    let name = c.take_while-name.ensures.read is_ascii_word (λ k r e. search rules) in
    let value = c.take_while-value.ensures.read is_ascii_word (λ k r e. search rules) in
    elim c.then-is_empty-2.branch [
      | then-is_empty-2-via-then-is_empty-2 w ↦ (rw (key_at-is, ← c.if-not-eat.ensures.found, ← c.if-not-eat.ensures.read, name, ← c.is_empty.ensures, c.if-is_empty.false, ← c.if-eat.ensures.found, ← c.if-eat.ensures.read, ← c.if-not-eat-2.ensures.found, ← c.if-not-eat-2.ensures.read, value, ← c.is_empty-2.ensures, w.if-is_empty-2.true) refl, refl)
      | then-is_empty-2-via-else-is_empty-2+then-not-eat-3 w ↦
          (rw (key_at-is, ← c.if-not-eat.ensures.found, ← c.if-not-eat.ensures.read, name, ← c.is_empty.ensures, c.if-is_empty.false, ← c.if-eat.ensures.found, ← c.if-eat.ensures.read, ← c.if-not-eat-2.ensures.found, ← c.if-not-eat-2.ensures.read, value, ← c.is_empty-2.ensures, w.if-is_empty-2.false, ← w.if-not-eat-3.ensures.found) refl, refl)
    ]

pub returns-clause-read : goal.returns-clause-read
returns-clause-read c =
    let name = c.take_while-name.ensures.read is_ascii_word (λ k r e. search rules) in
    let value = c.take_while-value.ensures.read is_ascii_word (λ k r e. search rules) in
    rw (key_at-is, ← c.if-not-eat.ensures.found, ← c.if-not-eat.ensures.read, name, ← c.is_empty.ensures, c.if-is_empty.false, ← c.if-eat.ensures.found, ← c.if-eat.ensures.read, ← c.if-not-eat-2.ensures.found, ← c.if-not-eat-2.ensures.read, value, ← c.is_empty-2.ensures, c.if-is_empty-2.false, ← c.if-not-eat-3.ensures.found, c.if-not-eat-3.ensures.read) refl
