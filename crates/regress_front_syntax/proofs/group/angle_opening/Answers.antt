use Rattle.std.proofs.Common.{sym, arith}
use Rattle.std.proofs.lemmas.Result.{err_from_is_err_and}
use Rattle.regress_meaning.specs.Tokens.{name_at}
use Rattle.regress_front_tables.specs.TableViews.{table}
use Rattle.regress_front_tokens.specs.Escapes.{mode_view}
use Rattle.regress_front_tokens.specs.Cursors.{unread}
use Rattle.regress_front_tokens.specs.Words.{code_points_of}
use Rattle.regress_front_syntax.proofs.OpeningLemmas.{angle-look, angle-name, angle-none, opening-stopped}
use Rattle.regress_front_syntax.proofs.group.angle_opening.Goals as goal

pub returns-then-is_at_any-clause-read : goal.returns-then-is_at_any-clause-read
returns-then-is_at_any-clause-read c =
    rw (c.is_at-negated.ensures, c.bump.ensures.read) (angle-look (mode_view c.args.mode.now) (unread c.args.cursor.now) (sym c.if-is_at_any.ensures))

pub returns-in_err-name-clause-read : goal.returns-in_err-name-clause-read
returns-in_err-name-clause-read c =
    let p = err_from_is_err_and c.from_residual.result c.from_residual.ensures.1 in
    rw (p.1, p.2) (opening-stopped code_points_of (name_at (table c.args.mode.now.tables.now)) _ _ _ _ c.in_err-name.field-0.0
    (angle-none (mode_view c.args.mode.now) (unread c.args.cursor.now) (sym c.if-is_at_any.ensures)) c.in_err-name.ensures.read)

pub returns-clause-read : goal.returns-clause-read
returns-clause-read c = angle-name (mode_view c.args.mode.now) (unread c.args.cursor.now) _ _ (sym c.if-is_at_any.ensures) c.in_ok-name.ensures.read

pub returns-clause-progress : goal.returns-clause-progress
returns-clause-progress c =
    omega (arith, (c.reading_leaves_less.ensures (mode_view c.args.mode.now) (unread c.args.cursor.now)).name _ _ c.in_ok-name.ensures.read)
