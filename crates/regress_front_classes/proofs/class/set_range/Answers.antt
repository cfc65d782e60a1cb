use Rattle.std.proofs.Common.{◌≡◌, drop, sym, ap, ◌∙◌}
use Rattle.std.proofs.lemmas.Bool.{le-leb, lt-leb}
use Rattle.std.proofs.lemmas.Result.{err_from_is_err_and}
use Rattle.regress_meaning.specs.ReadingClass.{read_set_character, read_range}
use Rattle.regress_front_tokens.specs.Escapes.{mode_view}
use Rattle.regress_front_tokens.specs.Trees.{class_view}
use Rattle.regress_front_classes.specs.Classes.{item_view}
use Rattle.regress_front_tokens.specs.Cursors.{unread}
use Rattle.regress_front_classes.proofs.ClassLemmas.{IsRead-stopped}
use Rattle.regress_meaning.proofs.ReadSteps.{on_guard, off_guard}
use Rattle.regress_front_classes.proofs.SetLemmas.{set_range-alone, set_range-class, set_range-no_last, set_range-last}
use Rattle.regress_front_classes.proofs.class.set_range.Goals as goal
use Rattle.regress_front_tokens.proofs.ClassViews.{class_view-Range}

pub returns-then-not-eat-clause-read : goal.returns-then-not-eat-clause-read
returns-then-not-eat-clause-read c =
    rw (c.into_class.ensures, c.if-not-eat.ensures.read)
    (set_range-alone (mode_view c.args.mode.now) (item_view c.args.item) (unread c.args.cursor.now) (sym c.eat.ensures.found ∙ c.if-not-eat.true))

pub returns-in_default-clause-read : goal.returns-in_default-clause-read
returns-in_default-clause-read c =
    set_range-class (mode_view c.args.mode.now) (item_view c.args.item) (unread c.args.cursor.now) (sym c.eat.ensures.found ∙ c.if-not-eat.false) (sym c.point.ensures ∙ c.in_default.is)

pub returns-in_err-last-clause-read : goal.returns-in_err-last-clause-read
returns-in_err-last-clause-read c =
    let m = mode_view c.args.mode.now in
    let i = item_view c.args.item in
    let t = unread c.args.cursor.now in
    let u = unread c.eat.new.self in
    let r = unread c.set_character.new.cursor in
    let same : u ≡ drop 1 t = c.if-not-eat.ensures.read in
    let p = err_from_is_err_and c.from_residual.result c.from_residual.ensures.1 in
    rw (p.1, p.2) (IsRead-stopped (λ c. c) class_view (read_set_character m) (read_range m i) t u r r c.in_err-last.field-0.0
    (λ none. set_range-no_last m i t c.in-Some.first (sym c.eat.ensures.found ∙ c.if-not-eat.false) (sym c.point.ensures ∙ c.in-Some.is) (ap (read_set_character m) (sym same) ∙ none))
    c.in_err-last.ensures.read)

pub returns-then-last-first-clause-read : goal.returns-then-last-first-clause-read
returns-then-last-first-clause-read c =
    let m = mode_view c.args.mode.now in
    let same : unread c.eat.new.self ≡ drop 1 (unread c.args.cursor.now) = c.if-not-eat.ensures.read in
    set_range-last m (item_view c.args.item) (unread c.args.cursor.now) c.in-Some.first c.in_ok-last.last (unread c.set_character.new.cursor)
    (sym c.eat.ensures.found ∙ c.if-not-eat.false) (sym c.point.ensures ∙ c.in-Some.is) (ap (read_set_character m) (sym same) ∙ c.in_ok-last.ensures.read)
    ∙ off_guard _ (lt-leb c.in-Some.first c.in_ok-last.last c.if-last-first.true)

pub returns-clause-read : goal.returns-clause-read
returns-clause-read c =
    let m = mode_view c.args.mode.now in
    let same : unread c.eat.new.self ≡ drop 1 (unread c.args.cursor.now) = c.if-not-eat.ensures.read in
    rw (class_view-Range c.in-Some.first c.in_ok-last.last)
    (set_range-last m (item_view c.args.item) (unread c.args.cursor.now) c.in-Some.first c.in_ok-last.last (unread c.set_character.new.cursor)
    (sym c.eat.ensures.found ∙ c.if-not-eat.false) (sym c.point.ensures ∙ c.in-Some.is) (ap (read_set_character m) (sym same) ∙ c.in_ok-last.ensures.read)
    ∙ on_guard _ (le-leb c.in-Some.first c.in_ok-last.last c.if-last-first.false))
