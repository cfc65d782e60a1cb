use Rattle.std.proofs.Common.{arith, ◌≡◌, suc, ◌+◌, not, ◌==◌, length, ◌&&◌, ◌||◌, drop, refl, sym, ap, ◌∙◌}
use Rattle.std.specs.List.{list_any, list_all}
use Rattle.std.proofs.Math.ListN.{drop_of_length-le}
use Rattle.std.proofs.Math.Seq.{drop-cons}
use Rattle.regress_meaning.specs.Class.{may_hold_strings}
use Rattle.regress_front_tokens.specs.Trees.{class_view}
use Rattle.regress_front_tokens.proofs.ClassViews.{class_view-Strings, class_view-Union, class_view-Intersection, class_view-Difference}
use Rattle.regress_front_classes.proofs.HoldLemmas.{holds_strings, strings-hold, union_of-holds, intersection-holds, difference-holds}
use Rattle.regress_front_classes.proofs.class.+may_hold.Goals as goal

pub all_may_hold_strings-loop-class-init : goal.all_may_hold_strings-loop-class-init
all_may_hold_strings-loop-class-init t c = refl

pub all_may_hold_strings-loop-class-preserved : goal.all_may_hold_strings-loop-class-preserved
all_may_hold_strings-loop-class-preserved t c =
    let here = drop-cons c.args.classes.now c.loop-class.class-index c.class-item.result c.loop-class-test.true in
    let next : suc c.loop-class.class-index ≡ c.loop-class.class-index + 1 = omega arith in
    c.loop-class.invariant ∙ ap (list_all holds_strings) here
    ∙ ap (λ b. b && list_all holds_strings (drop (suc c.loop-class.class-index) c.args.classes.now)) (ap holds_strings (sym c.class-item.is) ∙ sym c.may_hold_strings.ensures ∙ c.if-not-may_hold_strings.false)
    ∙ ap (λ k. list_all holds_strings (drop k c.args.classes.now)) next

pub all_may_hold_strings-returns : goal.all_may_hold_strings-returns
all_may_hold_strings-returns t c = sym (c.loop-class.invariant ∙ ap (list_all holds_strings) (drop_of_length-le c.args.classes.now c.loop-class-test.false))

pub may_hold_strings-returns-in-Strings : goal.may_hold_strings-returns-in-Strings
may_hold_strings-returns-in-Strings t c =
    c.one_is_no_character.ensures ∙ ap (list_any (λ s. not (length s.items == 1))) c.deref.ensures.value ∙ sym (ap holds_strings c.in-Strings.is ∙ ap may_hold_strings (class_view-Strings c.in-Strings.strings) ∙ strings-hold c.in-Strings.strings.items)

pub may_hold_strings-returns-in-Union : goal.may_hold_strings-returns-in-Union
may_hold_strings-returns-in-Union t c =
    c.one_may_hold_strings.ensures ∙ ap (list_any holds_strings) c.deref-in-Union.ensures.value
    ∙ sym (ap holds_strings c.in-Union.is ∙ ap may_hold_strings (class_view-Union c.in-Union.members) ∙ union_of-holds c.in-Union.members.items)

pub may_hold_strings-returns-then-may_hold_strings : goal.may_hold_strings-returns-then-may_hold_strings
may_hold_strings-returns-then-may_hold_strings t c =
    let whole = ap holds_strings c.in-Intersection.is ∙ ap may_hold_strings (class_view-Intersection c.in-Intersection.first c.in-Intersection.others) ∙ intersection-holds (class_view c.in-Intersection.first.value) c.in-Intersection.others.items in
    c.all_may_hold_strings.ensures ∙ ap (list_all holds_strings) c.deref-then-may_hold_strings.ensures.value
    ∙ ap (λ b. b && list_all holds_strings c.in-Intersection.others.items) (sym c.if-may_hold_strings.true ∙ c.may_hold_strings.ensures ∙ ap holds_strings c.deref-in-Intersection.ensures)
    ∙ sym whole

pub may_hold_strings-returns-else-may_hold_strings : goal.may_hold_strings-returns-else-may_hold_strings
may_hold_strings-returns-else-may_hold_strings t c =
    let whole = ap holds_strings c.in-Intersection.is ∙ ap may_hold_strings (class_view-Intersection c.in-Intersection.first c.in-Intersection.others) ∙ intersection-holds (class_view c.in-Intersection.first.value) c.in-Intersection.others.items in
    c.if-may_hold_strings.false
    ∙ ap (λ b. b && list_all holds_strings c.in-Intersection.others.items) (sym c.if-may_hold_strings.false ∙ c.may_hold_strings.ensures ∙ ap holds_strings c.deref-in-Intersection.ensures)
    ∙ sym whole

pub may_hold_strings-returns-in-Difference : goal.may_hold_strings-returns-in-Difference
may_hold_strings-returns-in-Difference t c =
    c.may_hold_strings-in-Difference.ensures ∙ ap holds_strings c.deref-in-Difference.ensures
    ∙ sym (ap holds_strings c.in-Difference.is ∙ ap may_hold_strings (class_view-Difference c.in-Difference.first c.in-Difference.field-1) ∙ difference-holds (class_view c.in-Difference.first.value) c.in-Difference.field-1.items)

pub one_may_hold_strings-loop-class-init : goal.one_may_hold_strings-loop-class-init
one_may_hold_strings-loop-class-init t c = refl

pub one_may_hold_strings-loop-class-preserved : goal.one_may_hold_strings-loop-class-preserved
one_may_hold_strings-loop-class-preserved t c =
    let here = drop-cons c.args.classes.now c.loop-class.class-index c.class-item.result c.loop-class-test.true in
    let next : suc c.loop-class.class-index ≡ c.loop-class.class-index + 1 = omega arith in
    c.loop-class.invariant ∙ ap (list_any holds_strings) here
    ∙ ap (λ b. b || list_any holds_strings (drop (suc c.loop-class.class-index) c.args.classes.now)) (ap holds_strings (sym c.class-item.is) ∙ sym c.may_hold_strings.ensures ∙ c.if-may_hold_strings.false)
    ∙ ap (λ k. list_any holds_strings (drop k c.args.classes.now)) next

pub one_may_hold_strings-returns : goal.one_may_hold_strings-returns
one_may_hold_strings-returns t c = sym (c.loop-class.invariant ∙ ap (list_any holds_strings) (drop_of_length-le c.args.classes.now c.loop-class-test.false))
