use Rattle.std.proofs.Common.{◌∙◌, sym, ap, ap₂, map, fold, rules, arith}
use Rattle.std.proofs.lemmas.Result.{IfOk-weaker}
use denote.Param.Weighed.{at_most}
use Rattle.regress_front_tokens.proofs.syntax.Class.TheLaws.{the_size}
use Rattle.regress_front_tokens.specs.declared.syntax.Class.TheViews.{the_lemmas}
use Rattle.regress_meaning.specs.Class as meaning
use Rattle.regress_meaning.specs.Points.{ClassIsOfPoints}
use Rattle.regress_meaning.specs.Class.{Strings, only, complement_of, value_of}
use Rattle.regress_front_tables.specs.TableViews.{table}
use Rattle.regress_front_tokens.specs.Trees.{class_view}
use Rattle.regress_front_class_values.specs.ClassValues.{united, all_united, intersected, subtracted}
use Rattle.regress_front_class_values.proofs.ClassLemmas.{in_intervals-one}
use Rattle.regress_front_class_values.proofs.ClassValueLemmas.{value_of-more, union_points, fold-more, first_points, other_points, one_points}
use Rattle.regress_front_tokens.proofs.ClassViews.{class_view-Range, class_view-Digits, class_view-Spaces, class_view-Words, class_view-Property, class_view-Sequences, class_view-Strings, class_view-Intersection, class_view-Difference, class_view-Complement, class_view-Nested}
use Rattle.regress_front_class_values.proofs.value.+class_value.Goals as goal

pub class_value-returns-in-Sequences : goal.class_value-returns-in-Sequences
unfolding value_of
class_value-returns-in-Sequences t c =
    rw (c.in-Sequences.is, class_view-Sequences, ← c.deref-in-Sequences.ensures) c.sequence_value.ensures

pub class_value-returns-in-Strings : goal.class_value-returns-in-Strings
unfolding value_of
class_value-returns-in-Strings t c =
    rw (c.in-Strings.is, class_view-Strings, ← c.deref-in-Strings.ensures.value) c.of_strings.ensures

pub class_value-returns-in-Range : goal.class_value-returns-in-Range
unfolding value_of
class_value-returns-in-Range t c =
    rw (c.in-Range.is, class_view-Range) (IfOk-weaker c.range_value.result _ _ (λ v e. e ∙ ap only (in_intervals-one c.in-Range.first c.in-Range.last)) c.range_value.ensures)

pub class_value-returns-in-Digits : goal.class_value-returns-in-Digits
unfolding value_of
class_value-returns-in-Digits t c = rw (c.in-Digits.is, class_view-Digits) c.digit_value.ensures

pub class_value-returns-in-Spaces : goal.class_value-returns-in-Spaces
unfolding value_of
class_value-returns-in-Spaces t c = rw (c.in-Spaces.is, class_view-Spaces) c.space_value.ensures

pub class_value-returns-in-Words : goal.class_value-returns-in-Words
unfolding value_of
class_value-returns-in-Words t c = rw (c.in-Words.is, class_view-Words) c.word_value.ensures

pub class_value-returns-in-Property : goal.class_value-returns-in-Property
unfolding value_of
class_value-returns-in-Property t c =
    rw (c.in-Property.is, class_view-Property, ← c.deref.ensures) c.property_value.ensures

pub class_value-returns-in-Complement : goal.class_value-returns-in-Complement
unfolding value_of
class_value-returns-in-Complement t c =
    rw (c.in-Complement.is, class_view-Complement, ← c.deref-in-Complement.ensures) c.complement_value.ensures

pub class_value-returns-then-negated : goal.class_value-returns-then-negated
unfolding value_of
class_value-returns-then-negated t c =
    rw (c.in-Nested.is, class_view-Nested, c.if-negated.true, ← c.deref-then-negated.ensures) c.complement_value-then-negated.ensures

pub class_value-returns-else-negated : goal.class_value-returns-else-negated
unfolding value_of
class_value-returns-else-negated t c =
    rw (c.in-Nested.is, class_view-Nested, c.if-negated.false, ← c.deref-else-negated.ensures) c.class_value.ensures

pub complement_value-returns : goal.complement_value-returns
complement_value-returns t c =
    IfOk-weaker c.complement.result _ _ (λ v e. e ∙ ap complement_of c.in_ok-value.ensures) c.complement.ensures

pub union_value-loop-member-init : goal.union_value-loop-member-init
unfolding value_of
union_value-loop-member-init t c = ap all_united c.new-values.ensures.items

pub union_value-loop-member-preserved : goal.union_value-loop-member-preserved
union_value-loop-member-preserved t c =
    c.in_ok-push_joined.ensures ∙ ap₂ united c.loop-member.invariant c.in_ok-value.ensures
    ∙ sym (value_of-more (table c.args.tables.now) c.args.folded c.args.members.now c.loop-member.member-index c.member-item.result (omega arith) c.member-item.is)

pub union_value-class_value-requires : goal.union_value-class_value-requires
union_value-class_value-requires t c =
    let depth = at_most the_size c.args.members.now c.loop-member.member-index c.member-item.result (omega arith) in
    let own = ap the_size c.member-item.is in
    (omega (arith, depth, own, c.decreases), union_points c.args.members.now c.loop-member.member-index c.member-item.result c.requires (omega arith) c.member-item.is)

pub class_value-boxed_value-requires : goal.class_value-boxed_value-requires
class_value-boxed_value-requires t c =
    let points : ClassIsOfPoints (fold meaning.intersection (class_view c.in-Intersection.first.value) (map class_view c.in-Intersection.others.items)) = rw (c.in-Intersection.is, class_view-Intersection) at c.requires in
    (search (rules, the_lemmas), rw (c.deref-in-Intersection.ensures) (first_points meaning.intersection (λ x y h. h) (class_view c.in-Intersection.first.value) (map class_view c.in-Intersection.others.items) points))

pub class_value-boxed_value-requires-in-Difference : goal.class_value-boxed_value-requires-in-Difference
class_value-boxed_value-requires-in-Difference t c =
    let points : ClassIsOfPoints (fold meaning.difference (class_view c.in-Difference.first.value) (map class_view c.in-Difference.others.items)) = rw (c.in-Difference.is, class_view-Difference) at c.requires in
    (search (rules, the_lemmas), rw (c.deref-in-Difference.ensures) (first_points meaning.difference (λ x y h. h) (class_view c.in-Difference.first.value) (map class_view c.in-Difference.others.items) points))

pub class_value-intersected_value-requires : goal.class_value-intersected_value-requires
class_value-intersected_value-requires t c =
    let points : ClassIsOfPoints (fold meaning.intersection (class_view c.in-Intersection.first.value) (map class_view c.in-Intersection.others.items)) = rw (c.in-Intersection.is, class_view-Intersection) at c.requires in
    (search (rules, the_lemmas), rw (c.deref-in-Intersection-2.ensures.value) (other_points meaning.intersection (λ x y h. h) (class_view c.in-Intersection.first.value) (map class_view c.in-Intersection.others.items) points))

pub class_value-subtracted_value-requires : goal.class_value-subtracted_value-requires
class_value-subtracted_value-requires t c =
    let points : ClassIsOfPoints (fold meaning.difference (class_view c.in-Difference.first.value) (map class_view c.in-Difference.others.items)) = rw (c.in-Difference.is, class_view-Difference) at c.requires in
    (search (rules, the_lemmas), rw (c.deref-in-Difference-2.ensures.value) (other_points meaning.difference (λ x y h. h) (class_view c.in-Difference.first.value) (map class_view c.in-Difference.others.items) points))

pub class_value-returns-in_ok-first-in-Intersection : goal.class_value-returns-in_ok-first-in-Intersection
class_value-returns-in_ok-first-in-Intersection t c =
    rw (c.in-Intersection.is, class_view-Intersection, ← c.deref-in-Intersection-2.ensures.value)
    (c.intersected_value.ensures (class_view c.in-Intersection.first.value) (rw (← c.deref-in-Intersection.ensures) c.in_ok-first-in-Intersection.ensures))

pub class_value-returns-in_ok-first-in-Difference : goal.class_value-returns-in_ok-first-in-Difference
class_value-returns-in_ok-first-in-Difference t c =
    rw (c.in-Difference.is, class_view-Difference, ← c.deref-in-Difference-2.ensures.value)
    (c.subtracted_value.ensures (class_view c.in-Difference.first.value) (rw (← c.deref-in-Difference.ensures) c.in_ok-first-in-Difference.ensures))

pub intersected_value-class_value-requires : goal.intersected_value-class_value-requires
intersected_value-class_value-requires t c =
    let depth = at_most the_size c.args.others.now c.loop-other.other-index c.other-item.result (omega arith) in
    let own = ap the_size c.other-item.is in
    (omega (arith, depth, own, c.decreases), one_points c.args.others.now c.loop-other.other-index c.other-item.result c.requires (omega arith) c.other-item.is)

pub subtracted_value-class_value-requires : goal.subtracted_value-class_value-requires
subtracted_value-class_value-requires t c =
    let depth = at_most the_size c.args.others.now c.loop-other.other-index c.other-item.result (omega arith) in
    let own = ap the_size c.other-item.is in
    (omega (arith, depth, own, c.decreases), one_points c.args.others.now c.loop-other.other-index c.other-item.result c.requires (omega arith) c.other-item.is)

pub intersected_value-loop-other-preserved : goal.intersected_value-loop-other-preserved
unfolding value_of
intersected_value-loop-other-preserved t c = λ d first.
    c.in_ok-value.ensures ∙ ap₂ intersected (c.loop-other.invariant d first) c.in_ok-other.ensures
    ∙ ap (value_of (table c.args.tables.now) c.args.folded) (sym (fold-more meaning.intersection d c.args.others.now c.loop-other.other-index c.other-item.result (omega arith) c.other-item.is))

pub subtracted_value-loop-other-preserved : goal.subtracted_value-loop-other-preserved
unfolding value_of
subtracted_value-loop-other-preserved t c = λ d first.
    c.in_ok-value.ensures ∙ ap₂ subtracted (c.loop-other.invariant d first) c.in_ok-other.ensures
    ∙ ap (value_of (table c.args.tables.now) c.args.folded) (sym (fold-more meaning.difference d c.args.others.now c.loop-other.other-index c.other-item.result (omega arith) c.other-item.is))
