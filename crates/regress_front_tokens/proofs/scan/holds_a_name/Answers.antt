use Rattle.std.proofs.Common.{◌≡◌, ◌∷◌, false, sym, ap, ◌∙◌}
use Rattle.regress_meaning.specs.Grammar.{opens_name, holds_a_name}
use Rattle.regress_front_tokens.specs.Cursors.{unread}
use Rattle.regress_front_tokens.proofs.EscapeLemmas.{next-drop}
use Rattle.regress_front_tokens.proofs.ScanLemmas.{skipped, skipped-backslash, skipped-other, holds-step, holds-end, holds-found}
use Rattle.regress_front_tokens.proofs.scan.holds_a_name.Goals as goal
use Rattle.regress_front_tokens.proofs.scan.holds_a_name.Goals.{then-in_class, else-in_class+then-not-opens_name, then-point-from, else-point-from}

pub returns-in_default : goal.returns-in_default
returns-in_default c = sym (c.loop-in_class.invariant ∙ holds-end _ _ c.in_default.ensures.read.0)

pub loop-in_class-preserved : goal.loop-in_class-preserved
loop-in_class-preserved c =
    let b = c.loop-in_class.in_class in
    let point = c.in-Some.point in
    let r = unread c.next.new.self in
    let no_name : b ≡ false → opens_name (point ∷ r) ≡ false = elim c.if-in_class.branch [
      | then-in_class w ↦ λ e. let h = w.if-in_class.true in cc
      | else-in_class+then-not-opens_name w ↦ λ e. ap opens_name (sym c.in-Some.ensures.read) ∙ sym w.if-not-opens_name.ensures
    ] in
    let rest : unread c.if-point-from.cursor ≡ skipped point r = elim c.if-point-from.branch [
      | then-point-from w ↦ rw w.cursor-is (next-drop r w.next-then-point-from.result _ w.next-then-point-from.ensures.read ∙ sym (skipped-backslash point r (w.if-point-from.true ∙ c.from.ensures)))
      | else-point-from w ↦ rw w.cursor-is (sym (skipped-other point r (λ e. w.if-point-from.false (e ∙ sym c.from.ensures))))
    ] in
    rw (c.is_in_class_behind-in_class.ensures, rest)
    (c.loop-in_class.invariant ∙ ap (holds_a_name b false) c.in-Some.ensures.read ∙ holds-step b point r no_name)

pub returns : goal.returns
returns c = sym (c.loop-in_class.invariant ∙ ap (λ b. holds_a_name b false (unread c.loop-in_class.cursor)) c.if-in_class.false ∙ holds-found (unread c.loop-in_class.cursor) (sym c.if-not-opens_name.ensures))
