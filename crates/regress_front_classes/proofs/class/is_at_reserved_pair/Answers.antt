use Rattle.std.proofs.Common.{sym, ◌∙◌}
use Rattle.regress_front_tokens.specs.Cursors.{unread}
use Rattle.regress_front_classes.proofs.SetLemmas.{pair-is}
use Rattle.regress_front_classes.proofs.class.is_at_reserved_pair.Goals as goal

pub returns-then-is_at_any : goal.returns-then-is_at_any
returns-then-is_at_any c =
    rw (c.eq.ensures, c.peek.ensures, c.peek_at.ensures) (pair-is (unread c.args.cursor.now) (sym c.is_at_any.ensures ∙ c.if-is_at_any.true))
