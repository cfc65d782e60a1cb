use Rattle.std.proofs.Common.{◌≡◌, Some, None, arith, ap, ◌∙◌}
use Rattle.regress_meaning.specs.Grammar.{class_of}
use Rattle.std.specs.Option.{option_zip}
use Rattle.regress_front_tokens.specs.Escapes.{mode_view, escape_view}
use Rattle.regress_front_classes.specs.Classes.{point_of}
use Rattle.regress_front_classes.proofs.ClassLemmas.{AddsDashed-range, AddsDashed-loose}
use Rattle.regress_front_classes.proofs.class_ranges.push_dashed.Goals as goal
use Rattle.regress_front_tokens.proofs.ClassViews.{class_view-Range}

pub returns-in-Some : goal.returns-in-Some
returns-in-Some c =
    let d = escape_view c.args.first in
    let e = escape_view c.args.last in
    let ends : option_zip (point_of d) (point_of e) ≡ Some (c.in-Some.start, c.in-Some.end) = cc in
    AddsDashed-range (mode_view c.args.mode.now) d e c.in-Some.start c.in-Some.end _ _ _ ends (omega arith) (class_view-Range c.in-Some.start c.in-Some.end) c.in_ok-push.ensures.items

pub returns : goal.returns
returns c =
    let d = escape_view c.args.first in
    let e = escape_view c.args.last in
    let apart : option_zip (point_of d) (point_of e) ≡ None = cc in
    AddsDashed-loose (mode_view c.args.mode.now) d e _ _ _ _ _ _ _ apart c.if-mode.false
    c.member_class.ensures (c.class_of.ensures ∙ ap class_of c.from.ensures) c.member_class-2.ensures c.in_ok-push-2.ensures.items c.in_ok-push-3.ensures.items c.in_ok-push-4.ensures.items
