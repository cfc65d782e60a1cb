use Rattle.std.proofs.Common.{◌==◌, drop, sym, ap, ◌∙◌}
use Rattle.regress_meaning.specs.Text.{is_at}
use Rattle.regress_meaning.specs.Reading.{modifiers_at, angle_opening}
use Rattle.regress_front_tokens.specs.Escapes.{mode_view}
use Rattle.regress_front_tokens.specs.Cursors.{unread}
use Rattle.regress_front_syntax.proofs.OpeningLemmas.{question-look, question-colon, question-atomic, question-angle, question-modifiers, opening-there}
use Rattle.regress_front_syntax.proofs.group.question_opening.Goals as goal

pub returns-then-is_at_any-clause-read : goal.returns-then-is_at_any-clause-read
returns-then-is_at_any-clause-read c =
    rw (c.is_at-negated.ensures, c.bump.ensures.read) (question-look (mode_view c.args.mode.now) (unread c.args.cursor.now) (sym c.if-is_at_any.ensures))

pub returns-then-eat-clause-read : goal.returns-then-eat-clause-read
returns-then-eat-clause-read c =
    rw c.if-eat.ensures.read (question-colon (mode_view c.args.mode.now) (unread c.args.cursor.now) (sym c.if-is_at_any.ensures) (sym c.if-eat.ensures.found))

pub returns-then-eat-2-clause-read : goal.returns-then-eat-2-clause-read
returns-then-eat-2-clause-read c =
    let same = c.if-eat.ensures.read in
    let closes = ap (is_at (λ x. x == 0x3E)) (sym same) ∙ sym c.if-eat-2.ensures.found in
    rw (c.if-eat-2.ensures.read, same) (question-atomic (mode_view c.args.mode.now) (unread c.args.cursor.now) (sym c.if-is_at_any.ensures) (sym c.if-eat.ensures.found) closes)

pub returns-then-eat-3-clause-read : goal.returns-then-eat-3-clause-read
returns-then-eat-3-clause-read c =
    let m = mode_view c.args.mode.now in
    let same = c.if-eat.ensures.read in
    let again = c.if-eat-2.ensures.read ∙ same in
    let closes = ap (is_at (λ x. x == 0x3E)) (sym same) ∙ sym c.if-eat-2.ensures.found in
    let angle = ap (is_at (λ x. x == 0x3C)) (sym again) ∙ sym c.if-eat-3.ensures.found in
    opening-there _ (angle_opening m (unread c.eat-3.new.self)) _ _
    (question-angle m (unread c.args.cursor.now) (sym c.if-is_at_any.ensures) (sym c.if-eat.ensures.found) closes angle ∙ ap (angle_opening m) (sym (c.if-eat-3.ensures.read ∙ ap (drop 1) again)))
    c.angle_opening.ensures.read

pub returns-clause-read : goal.returns-clause-read
returns-clause-read c =
    let m = mode_view c.args.mode.now in
    let same = c.if-eat.ensures.read in
    let again = c.if-eat-2.ensures.read ∙ same in
    let closes = ap (is_at (λ x. x == 0x3E)) (sym same) ∙ sym c.if-eat-2.ensures.found in
    let angle = ap (is_at (λ x. x == 0x3C)) (sym again) ∙ sym c.if-eat-3.ensures.found in
    opening-there _ (modifiers_at (unread c.eat-3.new.self)) _ _
    (question-modifiers m (unread c.args.cursor.now) (sym c.if-is_at_any.ensures) (sym c.if-eat.ensures.found) closes angle ∙ ap modifiers_at (sym (c.if-eat-3.ensures.read ∙ again)))
    c.modifiers.ensures.read
