use Rattle.std.proofs.Common.{sym, ap, ◌∙◌}
use Rattle.std.specs.Prelude.{option_map}
use Rattle.regress_meaning.specs.Tokens.{escape_at, identity}
use Rattle.regress_front_tokens.specs.Trees.{class_view}
use Rattle.regress_front_tokens.specs.Escapes.{mode_view, escape_view, from_first}
use Rattle.regress_front_tokens.proofs.EscapeLemmas.{IsRead-same, escape_at-none, escape_at-set, escape_at-point, escape_at-identity}
use Rattle.regress_front_tokens.proofs.cursor.Cursor.escape.Goals as goal

pub returns-in_default-clause-read : goal.returns-in_default-clause-read
returns-in_default-clause-read c = escape_at-none _ _ c.in_default.ensures.read.0

pub returns-in-Some-2-clause-read : goal.returns-in-Some-2-clause-read
returns-in-Some-2-clause-read c =
    escape_at-set (mode_view c.args.mode.now) _ c.in-Some.letter _ _ c.in-Some.ensures.read (c.in_ok-class.ensures ∙ ap (option_map class_view) c.in-Some-2.is)

pub returns-in-Some-control-clause-read : goal.returns-in-Some-control-clause-read
returns-in-Some-control-clause-read c =
    escape_at-point (mode_view c.args.mode.now) _ c.in-Some.letter _ _ c.in-Some.ensures.read
    (c.in_ok-class.ensures ∙ ap (option_map class_view) c.in_default-2.is) (sym c.control.ensures ∙ c.in-Some-control.is)

pub returns-clause-read : goal.returns-clause-read
returns-clause-read c =
    let m = mode_view c.args.mode.now in
    IsRead-same escape_view (escape_at m) (from_first (identity m)) _ c.identity.result _
    (escape_at-identity m _ c.in-Some.letter _ c.in-Some.ensures.read (c.in_ok-class.ensures ∙ ap (option_map class_view) c.in_default-2.is)
    (sym c.control.ensures ∙ c.in_default-control.is) c.if-is_at.ensures c.if-is_at_digit.ensures c.if-is_at_any.ensures c.if-is_at_any-2.ensures) c.identity.ensures.read
