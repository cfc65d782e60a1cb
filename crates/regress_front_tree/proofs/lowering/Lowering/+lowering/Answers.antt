use Rattle.std.proofs.Common.{◌≡◌, suc, [], length, map, refl, sym, ap, arith, rules, option_map}
use Rattle.std.proofs.lemmas.Bool.{eqb-true, eqb-false}
use Rattle.std.proofs.lemmas.List.{take_all, nil_from_length}
use Rattle.std.proofs.lemmas.Result.{IfOk-weaker}
use Rattle.regress_front_tokens.specs.declared.syntax.Syntax.TheViews.{the_lemmas}
use Rattle.regress_front_tokens.specs.Trees as parsed
use Rattle.regress_front_tokens.specs.Words.{code_points_of}
use Rattle.regress_front_nodes.specs.Trees.{tree}
use Rattle.regress_front_tree.specs.Lowering.{of_terms, of_arms, of_capture, of_group, of_repeated, of_line_start, of_line_end}
use Rattle.regress_front_tree.specs.Scopes.{IsLowerable}
use Rattle.regress_front_tokens.proofs.TreeLaws as law
use Rattle.regress_front_tokens.proofs.RangeLemmas as range
use Rattle.regress_front_tree.proofs.LowerableLemmas.{IsLowerable-terms, IsLowerable-arms, contents-IsLowerable, each_is, term-IsLowerable, text-points}
use Rattle.regress_front_tree.proofs.LoweringLemmas.{each-none, each_more, each_count, terms-none, terms_more, text_more, nothing-in_scope, alone-in_scope, modified-in_scope, look-in_scope, atomic-in_scope}
use Rattle.regress_front_tree.proofs.lowering.Lowering.+lowering.Goals as goal
use Rattle.regress_front_tree.proofs.lowering.Lowering.+lowering.Goals.{terms-in-Text+in_ok-text-in-Text, terms-in-One+in_ok-node-in-One+in_ok-lower-in-One+in_ok-push-in-One}

-- what is asked of parts

pub lower-alternative-requires : goal.lower-alternative-requires
lower-alternative-requires t c =
    (search (rules, the_lemmas), rw c.deref.ensures.value (IsLowerable-terms _ (rw (c.in-Alternative.is, law.tree-Alternative) at c.requires)))

pub lower-disjunction-requires : goal.lower-disjunction-requires
lower-disjunction-requires t c =
    (search (rules, the_lemmas), rw c.deref-in-Disjunction.ensures.value (IsLowerable-arms _ (rw (c.in-Disjunction.is, law.tree-Disjunction) at c.requires)))

pub each-lower-requires : goal.each-lower-requires
each-lower-requires t c =
    (search (rules, the_lemmas), each_is IsLowerable c.args.parts.now c.loop-part.part-index c.part-item.result c.loop-part-test.true c.part-item.is c.requires)

pub terms-text-requires : goal.terms-text-requires
terms-text-requires t c =
    rw c.deref.ensures.value (text-points c.args.terms.now c.loop-term.term-index c.term-item.result c.in-Text.points c.loop-term-test.true c.term-item.is c.in-Text.is c.requires)

pub terms-lower-requires : goal.terms-lower-requires
terms-lower-requires t c =
    (search (rules, the_lemmas), term-IsLowerable c.args.terms.now c.loop-term.term-index c.term-item.result c.in-One.term c.loop-term-test.true c.term-item.is c.in-One.is c.requires)

pub capture-lower-requires : goal.capture-lower-requires
capture-lower-requires t c = (search (rules, the_lemmas), contents-IsLowerable c.args.id (option_map code_points_of c.args.name.now) (parsed.tree c.args.contents.now) c.requires)

pub disjunction-choose-requires : goal.disjunction-choose-requires
disjunction-choose-requires t c =
    omega (arith, eqb-false (length c.args.arms.now) 0 (sym c.if-is_empty.ensures), c.in_ok-nodes.ensures.count)

-- parts one by one

pub each-loop-part-init : goal.each-loop-part-init
each-loop-part-init t c = record {
  lowered = rw c.new-nodes.ensures.items (each-none c.args.self.now c.args.scope.now);
  count = ap length c.new-nodes.ensures.items;
}

pub each-loop-part-preserved : goal.each-loop-part-preserved
each-loop-part-preserved t c =
    let nodes = c.loop-part.nodes.items in
    let parts = c.args.parts.now in
    let i = c.loop-part.part-index in
    record {
      lowered = rw c.in_ok-push.ensures
          (each_more c.args.self.now c.args.scope.now parts nodes i c.part-item.result c.lower.new.node c.loop-part-test.true c.part-item.is c.loop-part.invariant.lowered c.in_ok-lower.ensures);
      count = rw c.in_ok-push.ensures (each_count parts nodes i c.part-item.result c.lower.new.node c.loop-part-test.true c.loop-part.invariant.count);
    }

pub each-returns-clause-lowered : goal.each-returns-clause-lowered
each-returns-clause-lowered t c = rw (take_all c.loop-part.part-index c.args.parts.now (omega arith)) at c.loop-part.invariant.lowered

pub each-returns-clause-count : goal.each-returns-clause-count
each-returns-clause-count t c = rw (take_all c.loop-part.part-index c.args.parts.now (omega arith)) at c.loop-part.invariant.count

-- terms

pub terms-loop-term-init : goal.terms-loop-term-init
terms-loop-term-init t c = rw c.new-nodes.ensures.items (terms-none c.args.self.now c.args.scope.now)

pub terms-loop-term-preserved : goal.terms-loop-term-preserved
terms-loop-term-preserved t c =
    let terms = c.args.terms.now in
    let i = c.loop-term.term-index in
    elim c.match-term.branch [
      | terms-in-Text+in_ok-text-in-Text w ↦
          rw w.nodes-is (text_more c.args.self.now c.args.scope.now terms (map tree c.loop-term.nodes.items) (map tree w.text.new.nodes.items) i c.term-item.result w.in-Text.points
          c.loop-term-test.true c.term-item.is w.in-Text.is c.loop-term.invariant (rw w.deref.ensures.value at w.in_ok-text-in-Text.ensures))
      | terms-in-One+in_ok-node-in-One+in_ok-lower-in-One+in_ok-push-in-One w ↦
          rw (w.nodes-is, w.in_ok-push-in-One.ensures) (terms_more c.args.self.now c.args.scope.now terms c.loop-term.nodes.items i c.term-item.result w.in-One.term w.lower.new.node
          c.loop-term-test.true c.term-item.is w.in-One.is c.loop-term.invariant w.in_ok-lower-in-One.ensures)
    ]

pub terms-returns : goal.terms-returns
terms-returns t c = rw (take_all c.loop-term.term-index c.args.terms.now (omega arith)) at c.loop-term.invariant

-- what is made of parts

pub alternative-returns : goal.alternative-returns
alternative-returns t c = rw c.line_up.ensures (λ j k e. of_terms (c.in_ok-nodes.ensures j k e))

pub disjunction-returns-then-is_empty : goal.disjunction-returns-then-is_empty
disjunction-returns-then-is_empty t c =
    let none : c.args.arms.now ≡ [] = nil_from_length c.args.arms.now (eqb-true (length c.args.arms.now) 0 (sym c.if-is_empty.ensures)) in
    rw (none, c.clear.ensures) (nothing-in_scope c.args.self.now c.args.scope.now)

pub disjunction-returns : goal.disjunction-returns
disjunction-returns t c = IfOk-weaker c.choose.result _ _ (λ done has j k e. of_arms (c.in_ok-nodes.ensures.lowered j k e) has) c.choose.ensures

pub capture-returns : goal.capture-returns
capture-returns t c = IfOk-weaker c.capture.result _ _ (λ done same. rw same (λ j k e. of_capture c.requires.names.0 (c.in_ok-lower.ensures (suc j) k e))) c.capture.ensures

pub repetition-returns : goal.repetition-returns
repetition-returns t c = IfOk-weaker c.repeat.result _ _ (λ done same. rw same (λ j k e. of_repeated (c.in_ok-lower.ensures j k e))) c.repeat.ensures

pub lookaround-returns : goal.lookaround-returns
lookaround-returns t c =
    IfOk-weaker c.look.result _ _
    (λ done same. rw same (look-in_scope c.args.self.now c.args.scope.now (record c.args.scope.now { backward = c.args.backwards }) c.args.negate c.args.backwards _ _ _ _ _ refl refl c.in_ok-lower.ensures))
    c.look.ensures

pub atomic_group-returns : goal.atomic_group-returns
atomic_group-returns t c =
    IfOk-weaker c.atomic.result _ _ (λ done same. rw same (atomic-in_scope c.args.self.now c.args.scope.now _ _ _ _ _ c.in_ok-lower.ensures)) c.atomic.ensures

-- a part of each kind

pub lower-returns-in-Alternative : goal.lower-returns-in-Alternative
lower-returns-in-Alternative t c = rw (c.in-Alternative.is, law.tree-Alternative, range.opens-Alternative, ← c.deref.ensures.value) c.alternative.ensures

pub lower-returns-in-Disjunction : goal.lower-returns-in-Disjunction
lower-returns-in-Disjunction t c = rw (c.in-Disjunction.is, law.tree-Disjunction, range.opens-Disjunction, ← c.deref-in-Disjunction.ensures.value) c.disjunction.ensures

pub lower-returns-in-Capture : goal.lower-returns-in-Capture
lower-returns-in-Capture t c = rw (c.in-Capture.is, law.tree-Capture, range.opens-Capture, ← c.deref-in-Capture.ensures) c.capture.ensures

pub lower-returns-in-Group : goal.lower-returns-in-Group
lower-returns-in-Group t c =
    rw (c.in-Group.is, law.tree-Group, range.opens-Group, ← c.deref-in-Group.ensures) (IfOk-weaker c.lower.result _ _ (λ done h j k e. of_group (h j k e)) c.lower.ensures)

pub lower-returns-in-Atomic : goal.lower-returns-in-Atomic
lower-returns-in-Atomic t c = rw (c.in-Atomic.is, law.tree-Atomic, range.opens-Atomic, ← c.deref-in-Atomic.ensures) c.atomic_group.ensures

pub lower-returns-in-Modified : goal.lower-returns-in-Modified
lower-returns-in-Modified t c =
    rw (c.in-Modified.is, law.tree-Modified, range.opens-Modified, ← c.deref-in-Modified.ensures)
    (IfOk-weaker c.lower-in-Modified.result _ _
    (λ done h. modified-in_scope c.args.self.now c.args.scope.now c.switched.result _ _ _ _ (tree c.lower-in-Modified.new.node) c.switched.ensures.settings c.switched.ensures.backward h)
    c.lower-in-Modified.ensures)

pub lower-returns-in-Loop : goal.lower-returns-in-Loop
lower-returns-in-Loop t c = rw (c.in-Loop.is, law.tree-Loop, range.opens-Loop, ← c.deref-in-Loop.ensures) c.repetition.ensures

pub lower-returns-in-Look : goal.lower-returns-in-Look
lower-returns-in-Look t c = rw (c.in-Look.is, law.tree-Look, range.opens-Look, ← c.deref-in-Look.ensures) c.lookaround.ensures

pub lower-returns-in-Character : goal.lower-returns-in-Character
lower-returns-in-Character t c =
    rw (c.in-Character.is, law.tree-Character) (IfOk-weaker c.character.result _ _ (λ done h. alone-in_scope c.args.self.now c.args.scope.now _ _ _ (range.opens-Character _) h) c.character.ensures)

pub lower-returns-in-Any : goal.lower-returns-in-Any
lower-returns-in-Any t c =
    rw (c.in-Any.is, law.tree-Any) (IfOk-weaker c.any.result _ _ (λ done h. alone-in_scope c.args.self.now c.args.scope.now _ _ _ range.opens-Any h) c.any.ensures)

pub lower-returns-in-Class : goal.lower-returns-in-Class
lower-returns-in-Class t c =
    rw (c.in-Class.is, law.tree-Class) (IfOk-weaker c.class.result _ _ (λ done h. alone-in_scope c.args.self.now c.args.scope.now _ _ _ (range.opens-Class _ _) h) c.class.ensures)

pub lower-returns-in-ClassEscape : goal.lower-returns-in-ClassEscape
lower-returns-in-ClassEscape t c =
    rw (c.in-ClassEscape.is, law.tree-ClassEscape) (IfOk-weaker c.class_escape.result _ _ (λ done h. alone-in_scope c.args.self.now c.args.scope.now _ _ _ (range.opens-ClassEscape _) h) c.class_escape.ensures)

pub lower-returns-in-Reference : goal.lower-returns-in-Reference
lower-returns-in-Reference t c =
    rw (c.in-Reference.is, law.tree-Reference, range.opens-Reference, ← c.deref-in-Reference.ensures.value)
    (IfOk-weaker c.reference.result _ _ (λ done h. alone-in_scope c.args.self.now c.args.scope.now _ _ _ refl h) c.reference.ensures)

pub lower-returns-in-WordBoundary : goal.lower-returns-in-WordBoundary
lower-returns-in-WordBoundary t c =
    rw (c.in-WordBoundary.is, law.tree-WordBoundary) (IfOk-weaker c.word_boundary.result _ _ (λ done h. alone-in_scope c.args.self.now c.args.scope.now _ _ _ (range.opens-WordBoundary _) h) c.word_boundary.ensures)

pub lower-returns-in-LineStart : goal.lower-returns-in-LineStart
lower-returns-in-LineStart t c =
    rw (c.in-LineStart.is, law.tree-LineStart) (IfOk-weaker c.anchor.result _ _ (λ done same. rw same (alone-in_scope c.args.self.now c.args.scope.now _ _ _ range.opens-LineStart (λ k. of_line_start))) c.anchor.ensures)

pub lower-returns-in-LineEnd : goal.lower-returns-in-LineEnd
lower-returns-in-LineEnd t c =
    rw (c.in-LineEnd.is, law.tree-LineEnd) (IfOk-weaker c.anchor-in-LineEnd.result _ _ (λ done same. rw same (alone-in_scope c.args.self.now c.args.scope.now _ _ _ range.opens-LineEnd (λ k. of_line_end))) c.anchor-in-LineEnd.ensures)
