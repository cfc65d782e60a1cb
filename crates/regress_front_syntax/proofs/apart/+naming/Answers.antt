use Rattle.std.proofs.Common.{◌+◌, not, map, drop, refl, ap, sym, ◌∙◌, arith}
use Rattle.std.proofs.lemmas.List.{drop_all}
use Rattle.std.proofs.lemmas.Result.{IfOk-weaker}
use Rattle.regress_front_tokens.specs.Trees.{tree, trees_of, sequence_of, choice_of}
use Rattle.regress_front_tokens.specs.Words.{code_points_of}
use Rattle.regress_front_tokens.proofs.TreeLaws.{tree-Alternative}
use Rattle.regress_front_syntax.proofs.ApartLemmas.{terms-first, terms-split, text-left, terms-none, terms-more, terms-last, arms-first, arms-split, arms-none, arms-more, arms-last, is_name-text, empty_name, capture-named}
use Rattle.regress_front_syntax.proofs.apart.+naming.Goals as goal

pub names_in-returns-in-Alternative : goal.names_in-returns-in-Alternative
names_in-returns-in-Alternative t c = rw (c.in-Alternative.is, tree-Alternative, ← c.deref.ensures.value) c.names_in_terms.ensures

pub names_in_arms-loop-arm-init : goal.names_in_arms-loop-arm-init
names_in_arms-loop-arm-init t c = arms-first (choice_of (map tree c.args.arms.now)) c.new-names.result c.new-names.ensures.empty

pub names_in_arms-returns-in_default : goal.names_in_arms-returns-in_default
names_in_arms-returns-in_default t c =
    let arms = c.args.arms.now in
    let i = c.loop-arm.arm-index in
    let arm = c.arm-item.result in
    arms-none (choice_of (map tree arms)) (choice_of (map tree (drop i arms))) (tree arm) (map tree (drop (i + 1) arms)) c.loop-arm.names
    (arms-split arms i arm c.loop-arm-test.true c.arm-item.is) c.loop-arm.invariant (rw c.in_default.is at c.in_ok-more.ensures)

pub names_in_arms-loop-arm-preserved : goal.names_in_arms-loop-arm-preserved
names_in_arms-loop-arm-preserved t c =
    let arms = c.args.arms.now in
    let i = c.loop-arm.arm-index in
    let arm = c.arm-item.result in
    arms-more (choice_of (map tree arms)) (choice_of (map tree (drop i arms))) (tree arm) (map tree (drop (i + 1) arms)) c.loop-arm.names
    c.in-Some.more c.in_ok-names.field-0-0 c.in_ok-names.field-0-1 (arms-split arms i arm c.loop-arm-test.true c.arm-item.is)
    c.loop-arm.invariant (rw c.in-Some.is at c.in_ok-more.ensures) c.in_ok-names.ensures

pub names_in_arms-returns : goal.names_in_arms-returns
names_in_arms-returns t c =
    arms-last (choice_of (map tree c.args.arms.now)) c.loop-arm.names (rw (drop_all c.loop-arm.arm-index c.args.arms.now (omega arith)) at c.loop-arm.invariant)

pub names_in_named-returns-then-is_empty : goal.names_in_named-returns-then-is_empty
names_in_named-returns-then-is_empty t c =
    let unnamed = is_name-text c.args.name.now ∙ ap not (sym c.is_empty.ensures ∙ c.if-is_empty.true) in
    IfOk-weaker c.names_in.result _ _ (λ found h. empty_name (code_points_of c.args.name.now) (tree c.args.contents.now) found unnamed h) c.names_in.ensures

pub names_in_named-returns-in-Some : goal.names_in_named-returns-in-Some
names_in_named-returns-in-Some t c =
    let full = is_name-text c.args.name.now ∙ ap not (sym c.is_empty.ensures ∙ c.if-is_empty.false) in
    let inner = rw c.in-Some.is at c.in_ok-names.ensures in
    IfOk-weaker c.with_name.result _ _ (λ found adding. capture-named (code_points_of c.args.name.now) (tree c.args.contents.now) c.in-Some.names found full inner adding) c.with_name.ensures

pub names_in_terms-loop-term-init : goal.names_in_terms-loop-term-init
names_in_terms-loop-term-init t c = terms-first (sequence_of (trees_of c.args.terms.now)) c.new-names.result c.new-names.ensures.empty

pub names_in_terms-loop-term-preserved-in_default : goal.names_in_terms-loop-term-preserved-in_default
names_in_terms-loop-term-preserved-in_default t c =
    text-left (sequence_of (trees_of c.args.terms.now)) c.args.terms.now c.loop-term.term-index c.term-item.result c.in_default.field-0 c.loop-term.names
    c.loop-term-test.true c.term-item.is c.in_default.is c.loop-term.invariant

pub names_in_terms-returns-in_default-2 : goal.names_in_terms-returns-in_default-2
names_in_terms-returns-in_default-2 t c =
    let terms = c.args.terms.now in
    let i = c.loop-term.term-index in
    let term = c.in-One.term in
    terms-none (sequence_of (trees_of terms)) (sequence_of (trees_of (drop i terms))) (tree term) (sequence_of (trees_of (drop (i + 1) terms))) c.loop-term.names
    (terms-split terms i c.term-item.result term c.loop-term-test.true c.term-item.is c.in-One.is) c.loop-term.invariant (rw c.in_default-2.is at c.in_ok-more.ensures)

pub names_in_terms-returns-then-not-apart : goal.names_in_terms-returns-then-not-apart
names_in_terms-returns-then-not-apart t c =
    let terms = c.args.terms.now in
    let i = c.loop-term.term-index in
    let term = c.in-One.term in
    let more = terms-more (sequence_of (trees_of terms)) (sequence_of (trees_of (drop i terms))) (tree term) (sequence_of (trees_of (drop (i + 1) terms)))
    c.loop-term.names c.in-Some.more c.in_ok-all.all c.in_ok-all.apart (terms-split terms i c.term-item.result term c.loop-term-test.true c.term-item.is c.in-One.is)
    c.loop-term.invariant (rw c.in-Some.is at c.in_ok-more.ensures) c.in_ok-all.ensures in
    more.1 ∙ rw c.if-not-apart.true refl

pub names_in_terms-loop-term-preserved : goal.names_in_terms-loop-term-preserved
names_in_terms-loop-term-preserved t c =
    let terms = c.args.terms.now in
    let i = c.loop-term.term-index in
    let term = c.in-One.term in
    let more = terms-more (sequence_of (trees_of terms)) (sequence_of (trees_of (drop i terms))) (tree term) (sequence_of (trees_of (drop (i + 1) terms)))
    c.loop-term.names c.in-Some.more c.in_ok-all.all c.in_ok-all.apart (terms-split terms i c.term-item.result term c.loop-term-test.true c.term-item.is c.in-One.is)
    c.loop-term.invariant (rw c.in-Some.is at c.in_ok-more.ensures) c.in_ok-all.ensures in
    (more.0, rw c.if-not-apart.false at more.1)

pub names_in_terms-returns : goal.names_in_terms-returns
names_in_terms-returns t c =
    terms-last (sequence_of (trees_of c.args.terms.now)) c.loop-term.names (rw (drop_all c.loop-term.term-index c.args.terms.now (omega arith)) at c.loop-term.invariant)
