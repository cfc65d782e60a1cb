use Rattle.std.proofs.Common.{ℕ}
use Rattle.std.proofs.lemmas.Result.{err_from_is_err_and}
use Rattle.regress_meaning.specs.ReadingClass.{read_set_atom, read_set_character}
use Rattle.regress_front_tokens.specs.Escapes.{mode_view}
use Rattle.regress_front_classes.specs.Classes.{item_view}
use Rattle.regress_front_tokens.specs.Cursors.{unread}
use Rattle.regress_front_classes.proofs.ClassLemmas.{IsRead-stopped}
use Rattle.regress_front_classes.proofs.SetLemmas.{set_character-none, set_character-answer}
use Rattle.regress_front_classes.proofs.class.set_character.Goals as goal

pub returns-in_err-item-clause-read : goal.returns-in_err-item-clause-read
returns-in_err-item-clause-read c =
    let m = mode_view c.args.mode.now in
    let t = unread c.args.cursor.now in
    let r = unread c.set_item.new.cursor in
    let p = err_from_is_err_and c.from_residual.result c.from_residual.ensures.1 in
    rw (p.1, p.2) (IsRead-stopped {C = ℕ} item_view (λ c. c) (read_set_atom m) (read_set_character m) t t r r c.in_err-item.field-0.0 (set_character-none m t) c.in_err-item.ensures.read)

pub returns-clause-read : goal.returns-clause-read
returns-clause-read c =
    rw c.ok_or.ensures.value (set_character-answer (mode_view c.args.mode.now) (unread c.args.cursor.now) (item_view c.in_ok-item.item) (unread c.set_item.new.cursor) c.in_ok-item.ensures.read
    c.point.result c.point.ensures _ (λ none. none))
