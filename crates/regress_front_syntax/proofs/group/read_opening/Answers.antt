use Rattle.std.proofs.Common.{sym, ap, ◌∙◌}
use Rattle.regress_meaning.specs.Reading.{question_opening}
use Rattle.regress_front_tokens.specs.Escapes.{mode_view}
use Rattle.regress_front_tokens.specs.Cursors.{unread}
use Rattle.regress_front_syntax.proofs.OpeningLemmas.{parenthesis-question, parenthesis-group, opening-there}
use Rattle.regress_front_syntax.proofs.group.read_opening.Goals as goal

pub returns-then-eat-clause-read : goal.returns-then-eat-clause-read
returns-then-eat-clause-read c =
    let m = mode_view c.args.mode.now in
    opening-there _ (question_opening m (unread c.eat.new.self)) _ _
    (parenthesis-question m (unread c.args.cursor.now) (sym c.if-eat.ensures.found) ∙ ap (question_opening m) (sym c.if-eat.ensures.read))
    c.question_opening.ensures.read

pub returns-clause-read : goal.returns-clause-read
returns-clause-read c =
    rw c.if-eat.ensures.read (parenthesis-group (mode_view c.args.mode.now) (unread c.args.cursor.now) (sym c.if-eat.ensures.found))
