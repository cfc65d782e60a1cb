use Rattle.std.proofs.Common.{◌≡◌, sym, ap, ◌∙◌}
use Rattle.regress_meaning.specs.Text.{is_at}
use Rattle.regress_meaning.specs.Tokens.{class_escape_at}
use Rattle.regress_meaning.specs.ReadingClass.{read_member}
use Rattle.regress_front_tokens.specs.Escapes.{mode_view, escape_view}
use Rattle.regress_front_tokens.specs.Cursors.{unread}
use Rattle.regress_front_classes.proofs.ClassLemmas.{read_member-escape, read_member-bracket, read_member-end, read_member-itself, IsRead-there}
use Rattle.regress_front_classes.proofs.class_ranges.member.Goals as goal

pub returns-then-eat-clause-read : goal.returns-then-eat-clause-read
returns-then-eat-clause-read c =
    let m = mode_view c.args.mode.now in
    let t = unread c.args.cursor.now in
    let escapes = sym c.eat.ensures.found ∙ c.if-eat.true in
    IsRead-there escape_view (read_member m) (class_escape_at m) t (unread c.eat.new.self) _ _
    (read_member-escape m t escapes ∙ ap (class_escape_at m) (sym c.if-eat.ensures.read)) c.class_escape.ensures.read

pub returns-then-is_at-clause-read : goal.returns-then-is_at-clause-read
returns-then-is_at-clause-read c =
    let m = mode_view c.args.mode.now in
    let t = unread c.args.cursor.now in
    let no_escape = sym c.eat.ensures.found ∙ c.if-eat.false in
    let same : unread c.eat.new.self ≡ t = c.if-eat.ensures.read in
    read_member-bracket m t no_escape (ap (is_at _) (sym same) ∙ sym c.is_at.ensures ∙ c.if-is_at.true)

pub returns-clause-read : goal.returns-clause-read
returns-clause-read c =
    let m = mode_view c.args.mode.now in
    let t = unread c.args.cursor.now in
    let no_escape = sym c.eat.ensures.found ∙ c.if-eat.false in
    let same : unread c.eat.new.self ≡ t = c.if-eat.ensures.read in
    read_member-itself m t c.in-Some.point (unread c.next.new.self) no_escape (ap (is_at _) (sym same) ∙ sym c.is_at.ensures ∙ c.if-is_at.false)
    (sym same ∙ c.in-Some.ensures.read)

pub returns-in_default-clause-read : goal.returns-in_default-clause-read
returns-in_default-clause-read c =
    let m = mode_view c.args.mode.now in
    let t = unread c.args.cursor.now in
    let same : unread c.eat.new.self ≡ t = c.if-eat.ensures.read in
    read_member-end m t (sym same ∙ (rw c.in_default.is at c.next.ensures.read).0)
