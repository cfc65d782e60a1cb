use Rattle.std.proofs.Common.{◌≡◌, Some, Err, refl, sym, ap, ◌∙◌, subst}
use lib.Chars.{codes}
use Rattle.regress_meaning.specs.Tokens.{escape_at}
use Rattle.regress_meaning.specs.ReadingClass.{any_class, read_set_escape}
use Rattle.regress_front_tokens.specs.Readings.{IsRead}
use Rattle.regress_front_tokens.specs.Escapes.{mode_view, escape_view}
use Rattle.regress_front_tokens.specs.Trees.{class_view}
use Rattle.regress_front_classes.specs.Classes.{item_view, mark_at}
use Rattle.regress_front_tokens.specs.Cursors.{unread}
use Rattle.regress_front_classes.proofs.ClassLemmas.{IsRead-stopped}
use Rattle.regress_meaning.proofs.ReadSteps.{on_some, on_none}
use Rattle.regress_front_classes.proofs.SetLemmas.{set_escape-backspace, set_escape-mark, set_escape-other}
use Rattle.regress_front_classes.proofs.class.set_escape.Goals as goal

pub returns-then-eat-clause-read : goal.returns-then-eat-clause-read
returns-then-eat-clause-read c =
    rw c.if-eat.ensures.read (set_escape-backspace (mode_view c.args.mode.now) (unread c.args.cursor.now) (sym c.eat.ensures.found ∙ c.if-eat.true))

pub returns-in-Some-clause-read : goal.returns-in-Some-clause-read
returns-in-Some-clause-read c =
    set_escape-mark (mode_view c.args.mode.now) (unread c.args.cursor.now) c.in-Some.mark (unread c.eat_any.new.cursor) (sym c.eat.ensures.found ∙ c.if-eat.false)
    (ap (mark_at (codes "&-!#%,:;<=>@`~")) (sym c.if-eat.ensures.read) ∙ c.in-Some.ensures.read)

pub returns-in-Ok-Point-clause-read : goal.returns-in-Ok-Point-clause-read
returns-in-Ok-Point-clause-read c =
    let m = mode_view c.args.mode.now in
    let t = unread c.args.cursor.now in
    let same : unread c.eat_any.new.cursor ≡ t = c.in_default.ensures.read.1 ∙ c.if-eat.ensures.read in
    let no_mark = ap (mark_at (codes "&-!#%,:;<=>@`~")) (sym c.if-eat.ensures.read) ∙ c.in_default.ensures.read.0 in
    set_escape-other m t (sym c.eat.ensures.found ∙ c.if-eat.false) no_mark
    ∙ on_some _ (ap (escape_at m) (sym same) ∙ c.in-Ok-Point.ensures.read ∙ ap (λ e. Some (escape_view e, unread c.escape.new.self)) c.in-Ok-Point.field-0-is) refl

pub returns-in-Ok-Set-clause-read : goal.returns-in-Ok-Set-clause-read
returns-in-Ok-Set-clause-read c =
    let m = mode_view c.args.mode.now in
    let t = unread c.args.cursor.now in
    let same : unread c.eat_any.new.cursor ≡ t = c.in_default.ensures.read.1 ∙ c.if-eat.ensures.read in
    let no_mark = ap (mark_at (codes "&-!#%,:;<=>@`~")) (sym c.if-eat.ensures.read) ∙ c.in_default.ensures.read.0 in
    set_escape-other m t (sym c.eat.ensures.found ∙ c.if-eat.false) no_mark
    ∙ on_some _ (ap (escape_at m) (sym same) ∙ c.in-Ok-Set.ensures.read ∙ ap (λ e. Some (escape_view e, unread c.escape.new.self)) c.in-Ok-Set.field-0-is) refl
    ∙ ap (λ s. Some (any_class (class_view s), unread c.escape.new.self)) (sym c.in_ok-class-in-Ok-Set.ensures)

pub returns-in-Ok-Groups-clause-read : goal.returns-in-Ok-Groups-clause-read
returns-in-Ok-Groups-clause-read c =
    let m = mode_view c.args.mode.now in
    let t = unread c.args.cursor.now in
    let same : unread c.eat_any.new.cursor ≡ t = c.in_default.ensures.read.1 ∙ c.if-eat.ensures.read in
    let no_mark = ap (mark_at (codes "&-!#%,:;<=>@`~")) (sym c.if-eat.ensures.read) ∙ c.in_default.ensures.read.0 in
    set_escape-other m t (sym c.eat.ensures.found ∙ c.if-eat.false) no_mark
    ∙ on_some _ (ap (escape_at m) (sym same) ∙ c.in-Ok-Groups.ensures.read ∙ ap (λ e. Some (escape_view e, unread c.escape.new.self)) c.in-Ok-Groups.field-0-is) refl

pub returns-in-Err-Syntax-clause-read : goal.returns-in-Err-Syntax-clause-read
returns-in-Err-Syntax-clause-read c =
    let m = mode_view c.args.mode.now in
    let t = unread c.args.cursor.now in
    let same : unread c.eat_any.new.cursor ≡ t = c.in_default.ensures.read.1 ∙ c.if-eat.ensures.read in
    let no_mark = ap (mark_at (codes "&-!#%,:;<=>@`~")) (sym c.if-eat.ensures.read) ∙ c.in_default.ensures.read.0 in
    set_escape-other m t (sym c.eat.ensures.found ∙ c.if-eat.false) no_mark ∙ on_none _ (ap (escape_at m) (sym same) ∙ rw c.in-Err-Syntax.field-0-is at c.in-Err-Syntax.ensures.read)

pub returns-clause-read : goal.returns-clause-read
returns-clause-read c =
    let m = mode_view c.args.mode.now in
    let t = unread c.args.cursor.now in
    let same : unread c.eat_any.new.cursor ≡ t = c.in_default.ensures.read.1 ∙ c.if-eat.ensures.read in
    let no_mark = ap (mark_at (codes "&-!#%,:;<=>@`~")) (sym c.if-eat.ensures.read) ∙ c.in_default.ensures.read.0 in
    subst (λ e. IsRead item_view (read_set_escape m) t (Err e) (unread c.escape.new.self)) (sym c.in-Err.error-is)
    (IsRead-stopped escape_view item_view (escape_at m) (read_set_escape m) t (unread c.eat_any.new.cursor) (unread c.escape.new.self) (unread c.escape.new.self) c.in-Err.error
    (λ none. set_escape-other m t (sym c.eat.ensures.found ∙ c.if-eat.false) no_mark ∙ on_none _ (ap (escape_at m) (sym same) ∙ none))
    c.in-Err.ensures.read)
