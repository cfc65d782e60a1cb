use Rattle.std.proofs.Common.{refl, sym, ap, ◌∙◌, chars}
use Rattle.regress_meaning.specs.Tokens.{property_at, key_at}
use Rattle.regress_front_tokens.specs.Cursors.{unread}
use Rattle.regress_front_tokens.specs.Trees.{class_view}
use Rattle.regress_front_tokens.specs.Words.{code_points_of}
use Rattle.regress_front_tokens.specs.Escapes.{mode_view, from_first}
use Rattle.std.proofs.Math.Bool.{and-false}
use Rattle.std.proofs.lemmas.Result.{err_from_is_err_and}
use Rattle.regress_front_tokens.proofs.ClassViews.{class_view-Property, class_view-Sequences, class_view-Complement}
use Rattle.regress_front_tokens.proofs.EscapeLemmas.{IsRead-fails, next-drop, looked_up, property-no_key, property-positive, property-negative, property-sequences, property-unknown}
use Rattle.regress_front_tokens.proofs.cursor.Cursor.property.Goals as goal
use Rattle.regress_front_tokens.proofs.cursor.Cursor.property.Goals.{else-is_positive-2-via-then-is_positive-2+then-mode+else-is_some-2, else-is_positive-2-via-then-is_positive-2+else-mode, else-is_positive-2-via-else-is_positive-2}

pub returns-in_err-key-clause-read : goal.returns-in_err-key-clause-read
returns-in_err-key-clause-read c =
    let p = err_from_is_err_and c.from_residual.result c.from_residual.ensures.1 in
    let m = mode_view c.args.mode.now in
    let t = unread c.args.self.now in
    let next = next-drop t c.next.result _ c.next.ensures.read in
    rw (p.1, p.2)
    (IsRead-fails code_points_of key_at (unread c.next.new.self) c.in_err-key.field-0.0 _ class_view (from_first (property_at m)) t _ c.in_err-key.ensures.read
    (λ none. property-no_key m t (rw next at none)))

pub returns-then-is_positive-clause-read : goal.returns-then-is_positive-clause-read
returns-then-is_positive-clause-read c =
    let m = mode_view c.args.mode.now in
    let t = unread c.args.self.now in
    let next = next-drop t c.next.result _ c.next.ensures.read in
    let read = rw next at c.in_ok-key.ensures.read in
    let text = ap chars c.deref.ensures in
    let found = looked_up m.table.property _ c.property.result c.property.ensures text in
    rw (class_view-Property c.in_ok-key.key)
    (property-positive m t _ _ read (sym c.if-is_positive.true ∙ c.is_at-is_positive.ensures) (sym found ∙ sym c.is_some.ensures ∙ c.if-is_some.true))

pub returns-then-is_some-clause-read : goal.returns-then-is_some-clause-read
returns-then-is_some-clause-read c =
    let m = mode_view c.args.mode.now in
    let t = unread c.args.self.now in
    let next = next-drop t c.next.result _ c.next.ensures.read in
    let read = rw next at c.in_ok-key.ensures.read in
    let text = ap chars c.deref.ensures in
    let found = looked_up m.table.property _ c.property.result c.property.ensures text in
    rw (class_view-Complement c.in_ok-new.field-0, ap class_view c.in_ok-new.ensures.ok, class_view-Property c.in_ok-key.key)
    (property-negative m t _ _ read (sym c.if-is_positive.false ∙ c.is_at-is_positive.ensures) (sym found ∙ sym c.is_some.ensures ∙ c.if-is_some.true))

pub returns-then-is_some-2-clause-read : goal.returns-then-is_some-2-clause-read
returns-then-is_some-2-clause-read c =
    let m = mode_view c.args.mode.now in
    let t = unread c.args.self.now in
    let next = next-drop t c.next.result _ c.next.ensures.read in
    let read = rw next at c.in_ok-key.ensures.read in
    let text = ap chars c.deref.ensures in
    let found = looked_up m.table.property _ c.property.result c.property.ensures text in
    let more = looked_up m.table.sequences _ c.sequences.result c.sequences.ensures (ap chars c.deref-then-mode.ensures) in
    rw (class_view-Sequences c.in_ok-key.key)
    (property-sequences m t _ _ read (sym c.if-is_positive-2.true ∙ c.is_at-is_positive.ensures) (sym found ∙ sym c.is_some.ensures ∙ c.if-is_some.false) c.if-mode.true (sym more ∙ sym c.is_some-then-mode.ensures ∙ c.if-is_some-2.true))

pub returns-clause-read : goal.returns-clause-read
returns-clause-read c =
    let m = mode_view c.args.mode.now in
    let t = unread c.args.self.now in
    let next = next-drop t c.next.result _ c.next.ensures.read in
    let read = rw next at c.in_ok-key.ensures.read in
    let text = ap chars c.deref.ensures in
    let found = looked_up m.table.property _ c.property.result c.property.ensures text in
    let unknown = sym found ∙ sym c.is_some.ensures ∙ c.if-is_some.false in
    property-unknown m t _ _ read unknown (elim c.else-is_positive-2.branch [
      | else-is_positive-2-via-then-is_positive-2+then-mode+else-is_some-2 w ↦
          let more = looked_up m.table.sequences _ w.sequences.result w.sequences.ensures (ap chars w.deref-then-mode.ensures) in
          rw (← more, ← w.is_some-then-mode.ensures, w.if-is_some-2.false) (and-false _)
      | else-is_positive-2-via-then-is_positive-2+else-mode w ↦ rw (w.if-mode.false, and-false) refl
      | else-is_positive-2-via-else-is_positive-2 w ↦ rw (← c.is_at-is_positive.ensures, w.if-is_positive-2.false) refl
    ])
