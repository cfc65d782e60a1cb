use Rattle.std.proofs.Common.{◌≡◌, sym, ap, ◌∙◌}
use Rattle.regress_meaning.specs.Text.{is_at}
use Rattle.regress_meaning.specs.Grammar.{reserved_pair}
use Rattle.regress_meaning.specs.ReadingClass.{read_set_escape, read_set_atom}
use Rattle.regress_front_tokens.specs.Escapes.{mode_view}
use Rattle.regress_front_classes.specs.Classes.{item_view}
use Rattle.regress_front_tokens.specs.Cursors.{unread}
use Rattle.regress_front_classes.proofs.ClassLemmas.{IsRead-there}
use Rattle.regress_front_classes.proofs.SetLemmas.{set_atom-escape, set_atom-syntax, set_atom-pair, set_atom-end, set_atom-itself}
use Rattle.regress_front_classes.proofs.class.set_item.Goals as goal
use Rattle.regress_front_classes.proofs.class.set_item.Goals.{then-is_at_any-via-then-is_at_any, then-is_at_any-via-else-is_at_any+then-is_at_reserved_pair}

pub returns-then-eat-clause-read : goal.returns-then-eat-clause-read
returns-then-eat-clause-read c =
    let m = mode_view c.args.mode.now in
    let t = unread c.args.cursor.now in
    IsRead-there item_view (read_set_atom m) (read_set_escape m) t (unread c.eat.new.self) _ _
    (set_atom-escape m t (sym c.eat.ensures.found ∙ c.if-eat.true) ∙ ap (read_set_escape m) (sym c.if-eat.ensures.read)) c.set_escape.ensures.read

pub returns-then-is_at_any-clause-read : goal.returns-then-is_at_any-clause-read
returns-then-is_at_any-clause-read c =
    let m = mode_view c.args.mode.now in
    let t = unread c.args.cursor.now in
    let no_escape = sym c.eat.ensures.found ∙ c.if-eat.false in
    let same : unread c.eat.new.self ≡ t = c.if-eat.ensures.read in
    elim c.then-is_at_any.branch [
      | then-is_at_any-via-then-is_at_any w ↦ set_atom-syntax m t no_escape (ap (is_at _) (sym same) ∙ sym c.is_at_any.ensures ∙ w.if-is_at_any.true)
      | then-is_at_any-via-else-is_at_any+then-is_at_reserved_pair w ↦ set_atom-pair m t no_escape (ap reserved_pair (sym same) ∙ sym w.is_at_reserved_pair.ensures ∙ w.if-is_at_reserved_pair.true)
    ]

pub returns-in_default-clause-read : goal.returns-in_default-clause-read
returns-in_default-clause-read c =
    let same : unread c.eat.new.self ≡ unread c.args.cursor.now = c.if-eat.ensures.read in
    set_atom-end (mode_view c.args.mode.now) (unread c.args.cursor.now) (sym same ∙ c.in_default.ensures.read.0)

pub returns-clause-read : goal.returns-clause-read
returns-clause-read c =
    let same : unread c.eat.new.self ≡ unread c.args.cursor.now = c.if-eat.ensures.read in
    set_atom-itself (mode_view c.args.mode.now) (unread c.args.cursor.now) c.in-Some.point (unread c.next.new.self) (sym c.eat.ensures.found ∙ c.if-eat.false)
    (ap (is_at _) (sym same) ∙ sym c.is_at_any.ensures ∙ c.if-is_at_any.false)
    (ap reserved_pair (sym same) ∙ sym c.is_at_reserved_pair.ensures ∙ c.if-is_at_reserved_pair.false)
    (sym same ∙ c.in-Some.ensures.read)
