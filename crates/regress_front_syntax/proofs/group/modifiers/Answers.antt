use Rattle.std.proofs.Common.{◌≡◌, ◌++◌, ◌==◌, length, false, sym, ap, ◌∙◌, length-drop, arith}
use Rattle.regress_meaning.specs.Grammar.{is_flag}
use Rattle.regress_front_tokens.specs.Cursors.{unread}
use Rattle.regress_front_syntax.proofs.OpeningLemmas.{modifiers-none, modifiers-letters, modifiers-less, letters-read, letters-empty, letters-alike, letters-no_colon, not_empty-front, not_empty-rear}
use Rattle.regress_front_syntax.proofs.group.modifiers.Goals.{then-is_empty, else-is_empty, then-is_empty-2-via-then-is_empty-2, then-is_empty-2-via-else-is_empty-2+then-not-differ, then-is_empty-2-via-else-is_empty-2+else-not-differ+then-not-eat}
use Rattle.regress_front_syntax.proofs.group.modifiers.Goals as goal

pub returns-then-not-is_at_any-clause-read : goal.returns-then-not-is_at_any-clause-read
returns-then-not-is_at_any-clause-read c = modifiers-none (unread c.args.cursor.now) (sym c.if-not-is_at_any.ensures)

pub returns-then-is_empty-2-clause-read : goal.returns-then-is_empty-2-clause-read
returns-then-is_empty-2-clause-read c =
    let on = c.take_while-on.result.now in
    let off = c.switched_off-off.result.now in
    let r = unread c.switched_off-off.new.cursor in
    let letters = modifiers-letters _ on _ off r (c.take_while-on.ensures.read is_flag (λ k r e. e)) c.switched_off-off.ensures.read in
    elim c.then-is_empty-2.branch [
      | then-is_empty-2-via-then-is_empty-2 w ↦ elim c.if-is_empty.branch [
        | then-is_empty v ↦ letters ∙ letters-empty on off r (sym c.is_empty.ensures ∙ v.if-is_empty.true) (sym v.is_empty-is_empty.ensures ∙ sym v.is_empty-is ∙ w.if-is_empty-2.true)
        | else-is_empty v ↦ let h = v.is_empty-is in let k = w.if-is_empty-2.true in cc
      ]
      | then-is_empty-2-via-else-is_empty-2+then-not-differ w ↦ letters ∙ letters-alike (on ++ off) on off r (sym w.if-not-differ.ensures)
      | then-is_empty-2-via-else-is_empty-2+else-not-differ+then-not-eat w ↦ letters ∙ letters-no_colon (on ++ off) on off r (sym w.if-not-eat.ensures.found)
    ]

pub returns-clause-read : goal.returns-clause-read
returns-clause-read c =
    let on = c.take_while-on.result.now in
    let off = c.switched_off-off.result.now in
    let r = unread c.switched_off-off.new.cursor in
    let letters = modifiers-letters _ on _ off r (c.take_while-on.ensures.read is_flag (λ k r e. e)) c.switched_off-off.ensures.read in
    let some : (length (on ++ off) == 0) ≡ false = elim c.if-is_empty.branch [
      | then-is_empty v ↦ not_empty-rear on off (sym v.is_empty-is_empty.ensures ∙ sym v.is_empty-is ∙ c.if-is_empty-2.false)
      | else-is_empty v ↦ not_empty-front on off (sym c.is_empty.ensures ∙ v.if-is_empty.false)
    ] in
    rw c.if-not-eat.ensures.read (letters ∙ letters-read _ on off r some (sym c.if-not-differ.ensures) (sym c.if-not-eat.ensures.found))

pub returns-clause-progress : goal.returns-clause-progress
returns-clause-progress c =
    let on = c.take_while-on.result.now in
    let off = c.switched_off-off.result.now in
    let r = unread c.switched_off-off.new.cursor in
    let less = modifiers-less _ on _ off r (c.take_while-on.ensures.read is_flag (λ k r e. e)) c.switched_off-off.ensures.read in
    omega (arith, less, ap length c.if-not-eat.ensures.read, length-drop 1 r)
