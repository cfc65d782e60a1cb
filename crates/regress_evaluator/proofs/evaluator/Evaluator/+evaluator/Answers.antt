use Rattle.std.proofs.Common.{◌≡◌, ◌+◌, List, [], ◌∷◌, ◌++◌, ◌⊎◌, inl, inr, IfOk, length, map, take, drop, refl, sym, ap, ◌∙◌, arith}
use Rattle.std.specs.List.{flat_map}
use Rattle.std.proofs.lemmas.List.{take_all, drop_all, append-nil, map-append, take-map, nil_from_length}
use Rattle.regress_meaning.specs.Meaning.{State, captured}
use Rattle.regress_front_core.specs.Quantifiers.{most}
use Rattle.regress_front_nodes.specs.Trees.{cat_of, tree}
use Rattle.regress_front_nodes.specs.TreeMeaning.{node_outcomes}
use Rattle.regress_evaluator.specs.StateViews.{state_of, context_of, direction_of}
use Rattle.regress_front_nodes.specs.declared.node.Node.TheVariants as node
use Rattle.regress_evaluator.specs.declared.tasks.Task.{Task}
use Rattle.regress_evaluator.proofs.EvaluatorLemmas.{flat_map-no_part, parts_more, changed_more, changed_all}
use Rattle.regress_evaluator.proofs.RepetitionLemmas.{run, single_loop-is_loop, outcomes_of_task, outcomes_of_tasks, outcomes_of_tasks-start, outcomes_of_task-last, outcomes_of_tasks-emit, outcomes_of_tasks-expand, turns_of_task, turns-last, turns_of_tasks-emit, turns_of_tasks-expand}
use Rattle.regress_front_nodes.proofs.TreeLaws.{tree-Empty, tree-Goal, tree-Char, tree-ByteSequence, tree-ByteSet, tree-CharSet, tree-Cat, tree-Alt, tree-MatchAny, tree-MatchAnyExceptLineTerminator, tree-Anchor, tree-WordBoundary, tree-CaptureGroup, tree-BackRef, tree-Bracket, tree-StringSet, tree-LookaroundAssertion, tree-AtomicGroup, tree-Loop, tree-Loop1CharBody}
use Rattle.regress_evaluator.proofs.evaluator.Evaluator.+evaluator.Goals as goal

pub outcomes-returns-in-Empty : goal.outcomes-returns-in-Empty
unfolding node_outcomes
outcomes-returns-in-Empty t c = go c.in-Empty.is
  where
    go : (c.args.node.now ≡ node.Empty) ⊎ (c.args.node.now ≡ node.Goal)
        → IfOk c.alone_at.result (λ states. map state_of states.items ≡ node_outcomes (context_of c.args.self.now) (tree c.args.node.now) (direction_of c.args.direction) (state_of c.args.state.now))
    go (inl e) = rw (e, tree-Empty) c.alone_at.ensures
    go (inr e) = rw (e, tree-Goal) c.alone_at.ensures

pub outcomes-returns-in-Char : goal.outcomes-returns-in-Char
unfolding node_outcomes
outcomes-returns-in-Char t c = rw (c.in-Char.is, tree-Char) c.one.ensures

pub outcomes-returns-in-ByteSequence : goal.outcomes-returns-in-ByteSequence
unfolding node_outcomes
outcomes-returns-in-ByteSequence t c = rw (c.in-ByteSequence.is, tree-ByteSequence, ← c.deref.ensures.value) c.literal.ensures

pub outcomes-returns-in-ByteSet : goal.outcomes-returns-in-ByteSet
unfolding node_outcomes
outcomes-returns-in-ByteSet t c = rw (c.in-ByteSet.is, tree-ByteSet, ← c.deref-in-ByteSet.ensures.value) c.one-in-ByteSet.ensures

pub outcomes-returns-in-CharSet : goal.outcomes-returns-in-CharSet
unfolding node_outcomes
outcomes-returns-in-CharSet t c = rw (c.in-CharSet.is, tree-CharSet, ← c.deref-in-CharSet.ensures.value) c.one-in-CharSet.ensures

pub outcomes-returns-in-Cat : goal.outcomes-returns-in-Cat
outcomes-returns-in-Cat t c = rw (c.in-Cat.is, tree-Cat, ← c.deref-in-Cat.ensures.value) c.outcomes_of_parts.ensures

pub outcomes-returns-in_ok-append-in-Alt : goal.outcomes-returns-in_ok-append-in-Alt
unfolding node_outcomes
outcomes-returns-in_ok-append-in-Alt t c =
    rw (c.in-Alt.is, tree-Alt, c.in_ok-append-in-Alt.ensures.items, map-append state_of c.in_ok-states-in-Alt.states.items c.in_ok-outcomes-in-Alt.field-0.items, c.in_ok-states-in-Alt.ensures, c.in_ok-outcomes-in-Alt.ensures, c.deref-in-Alt.ensures, c.deref-in-Alt-2.ensures) refl

pub outcomes-returns-in-MatchAny : goal.outcomes-returns-in-MatchAny
unfolding node_outcomes
outcomes-returns-in-MatchAny t c = rw (c.in-MatchAny.is, tree-MatchAny) c.one-in-MatchAny.ensures

pub outcomes-returns-in-MatchAnyExceptLineTerminator : goal.outcomes-returns-in-MatchAnyExceptLineTerminator
unfolding node_outcomes
outcomes-returns-in-MatchAnyExceptLineTerminator t c = rw (c.in-MatchAnyExceptLineTerminator.is, tree-MatchAnyExceptLineTerminator) c.one-in-MatchAnyExceptLineTerminator.ensures

pub outcomes-returns-in-Anchor : goal.outcomes-returns-in-Anchor
outcomes-returns-in-Anchor t c = rw (c.in-Anchor.is, tree-Anchor) c.anchor.ensures

pub outcomes-returns-in-WordBoundary : goal.outcomes-returns-in-WordBoundary
outcomes-returns-in-WordBoundary t c = rw (c.in-WordBoundary.is, tree-WordBoundary) c.word_boundary.ensures

pub outcomes-returns-in-CaptureGroup : goal.outcomes-returns-in-CaptureGroup
unfolding node_outcomes
outcomes-returns-in-CaptureGroup t c = rw (c.in-CaptureGroup.is, tree-CaptureGroup, ← c.deref-in-CaptureGroup.ensures) c.outcomes_of_capture.ensures

pub outcomes-returns-in-BackRef : goal.outcomes-returns-in-BackRef
unfolding node_outcomes
outcomes-returns-in-BackRef t c = rw (c.in-BackRef.is, tree-BackRef) c.back_reference.ensures

pub outcomes-returns-in-Bracket : goal.outcomes-returns-in-Bracket
unfolding node_outcomes
outcomes-returns-in-Bracket t c = rw (c.in-Bracket.is, tree-Bracket) c.one-in-Bracket.ensures

pub outcomes-returns-in-StringSet : goal.outcomes-returns-in-StringSet
unfolding node_outcomes
outcomes-returns-in-StringSet t c = rw (c.in-StringSet.is, tree-StringSet, ← c.deref-in-StringSet.ensures.value) c.strings.ensures

pub outcomes-returns-in-LookaroundAssertion : goal.outcomes-returns-in-LookaroundAssertion
unfolding node_outcomes
outcomes-returns-in-LookaroundAssertion t c =
    rw (c.in-LookaroundAssertion.is, tree-LookaroundAssertion, ← c.deref-in-LookaroundAssertion.ensures) c.outcomes_of_look.ensures

pub outcomes-returns-in-AtomicGroup : goal.outcomes-returns-in-AtomicGroup
unfolding node_outcomes
outcomes-returns-in-AtomicGroup t c =
    rw (c.in-AtomicGroup.is, tree-AtomicGroup, ← c.deref-in-AtomicGroup.ensures) c.outcomes_of_atomic.ensures

pub outcomes-returns-in-Loop : goal.outcomes-returns-in-Loop
outcomes-returns-in-Loop t c = rw (c.in-Loop.is, tree-Loop, ← c.deref-in-Loop.ensures) c.outcomes_of_loop.ensures

pub outcomes-returns-in-Loop1CharBody : goal.outcomes-returns-in-Loop1CharBody
outcomes-returns-in-Loop1CharBody t c =
    let loopee = c.in-Loop1CharBody.loopee in
    let quant = c.in-Loop1CharBody.quant in
    rw (c.in-Loop1CharBody.is, tree-Loop1CharBody, ← single_loop-is_loop (context_of c.args.self.now) (tree loopee.value) (direction_of c.args.direction) quant.min (most quant) quant.greedy (state_of c.args.state.now), ← c.deref-in-Loop1CharBody.ensures)
    c.outcomes_of_loop-in-Loop1CharBody.ensures

pub outcomes_of_all-returns : goal.outcomes_of_all-returns
outcomes_of_all-returns t c = rw (take_all c.loop-state.state-index c.args.states.now (omega arith)) at c.loop-state.invariant

pub outcomes_of_parts-loop-part-preserved : goal.outcomes_of_parts-loop-part-preserved
outcomes_of_parts-loop-part-preserved t c =
    let context = context_of c.args.self.now in
    let dir = direction_of c.args.direction in
    let parts = c.args.parts.now in
    let index = c.loop-part.part-index in
    ap (flat_map (node_outcomes context (cat_of (map tree (drop (index + 1) parts))) dir))
    (rw c.deref.ensures.value at c.in_ok-states-2.ensures)
    ∙ parts_more context dir (map state_of c.loop-part.states.items) parts index c.part-item.result c.loop-part-test.true c.part-item.is
    ∙ c.loop-part.invariant

pub outcomes_of_parts-returns : goal.outcomes_of_parts-returns
outcomes_of_parts-returns t c =
    sym (flat_map-no_part (context_of c.args.self.now) (direction_of c.args.direction) (map state_of c.loop-part.states.items))
    ∙ rw (drop_all c.loop-part.part-index c.args.parts.now (omega arith)) at c.loop-part.invariant

pub outcomes_of_capture-loop-found-preserved : goal.outcomes_of_capture-loop-found-preserved
outcomes_of_capture-loop-found-preserved t c =
    changed_more (captured c.args.group c.args.state.now.place) c.loop-found.found-items c.deref_mut-found-items.result.now c.loop-found.found-index
    c.found-item.result c.capture.new.self (omega arith) c.capture.ensures
    c.loop-found.invariant.0 c.loop-found.invariant.1

pub outcomes_of_capture-returns : goal.outcomes_of_capture-returns
outcomes_of_capture-returns t c =
    let f = captured c.args.group c.args.state.now.place in
    let states = c.in_ok-states.states.items in
    changed_all f c.loop-found.found-items states c.loop-found.found-index c.in_ok-states.states.len
    (omega arith) (c.loop-found.auto.found-items ∙ ap length c.deref_mut-found-items.ensures.value) c.in_ok-states.states.ok.0
    (rw c.deref_mut-found-items.ensures.value at c.loop-found.invariant.0)
    ∙ ap (map f) c.in_ok-states.ensures

pub outcomes_of_atomic-returns : goal.outcomes_of_atomic-returns
outcomes_of_atomic-returns t c =
    ap (map state_of) c.truncate.ensures.items ∙ sym (take-map state_of 1 c.in_ok-states.states.items) ∙ ap (take 1) c.in_ok-states.ensures

pub outcomes_of_loop-loop-task-init : goal.outcomes_of_loop-loop-task-init
outcomes_of_loop-loop-task-init t c =
    let quant = c.args.quant in
    let told = outcomes_of_tasks-start (context_of c.args.self.now) (tree c.args.loopee.now) (direction_of c.args.direction) c.args.enclosed.now.start c.args.enclosed.now.end quant.min (most quant)
    c.unwrap_or-left.result quant.greedy (state_of c.args.state.now) c.in_ok-alone_at.field-0.items c.push_expansions.new.tasks.items
    (rw c.new-tasks.ensures.items at c.in_ok-push_expansions.ensures) c.in_ok-alone_at.ensures c.unwrap_or-left.ensures in
    rw c.new-all.ensures.items told

pub outcomes_of_loop-loop-task-smaller-in_ok-push-in-Emit : goal.outcomes_of_loop-loop-task-smaller-in_ok-push-in-Emit
outcomes_of_loop-loop-task-smaller-in_ok-push-in-Emit t c =
    let context = context_of c.args.self.now in
    let body = run context (tree c.args.loopee.now) (direction_of c.args.direction) c.args.enclosed.now.start c.args.enclosed.now.end in
    turns_of_tasks-emit body c.loop-task.tasks.items c.pop.new.self.items c.in-Some.task c.in-Some.ensures.items
    (ap (turns_of_task body) c.in-Emit.is)

pub outcomes_of_loop-loop-task-preserved-in_ok-push-in-Emit : goal.outcomes_of_loop-loop-task-preserved-in_ok-push-in-Emit
outcomes_of_loop-loop-task-preserved-in_ok-push-in-Emit t c =
    let context = context_of c.args.self.now in
    let body = run context (tree c.args.loopee.now) (direction_of c.args.direction) c.args.enclosed.now.start c.args.enclosed.now.end in
    rw c.in_ok-push-in-Emit.ensures.items
    (outcomes_of_tasks-emit body c.args.quant.greedy c.loop-task.all.items c.loop-task.tasks.items c.pop.new.self.items c.in-Some.task c.in-Emit.state c.in-Some.ensures.items
    (ap (outcomes_of_task body c.args.quant.greedy) c.in-Emit.is)
    ∙ c.loop-task.invariant)

pub outcomes_of_loop-loop-task-smaller-in_ok-push-in-Expand-default-eq0-default : goal.outcomes_of_loop-loop-task-smaller-in_ok-push-in-Expand-default-eq0-default
outcomes_of_loop-loop-task-smaller-in_ok-push-in-Expand-default-eq0-default t c =
    let last = c.in-Expand-default-eq0-default in
    let context = context_of c.args.self.now in
    let body = run context (tree c.args.loopee.now) (direction_of c.args.direction) c.args.enclosed.now.start c.args.enclosed.now.end in
    turns_of_tasks-emit body c.loop-task.tasks.items c.pop.new.self.items c.in-Some.task c.in-Some.ensures.items
    (ap (turns_of_task body) last.is ∙ turns-last body last.state last.left last.need last.left-test)

pub outcomes_of_loop-loop-task-preserved-in_ok-push-in-Expand-default-eq0-default : goal.outcomes_of_loop-loop-task-preserved-in_ok-push-in-Expand-default-eq0-default
outcomes_of_loop-loop-task-preserved-in_ok-push-in-Expand-default-eq0-default t c =
    let last = c.in-Expand-default-eq0-default in
    let context = context_of c.args.self.now in
    let body = run context (tree c.args.loopee.now) (direction_of c.args.direction) c.args.enclosed.now.start c.args.enclosed.now.end in
    rw c.in_ok-push-in-Expand-default-eq0-default.ensures.items
    (outcomes_of_tasks-emit body c.args.quant.greedy c.loop-task.all.items c.loop-task.tasks.items c.pop.new.self.items c.in-Some.task last.state c.in-Some.ensures.items
    (ap (outcomes_of_task body c.args.quant.greedy) last.is ∙ outcomes_of_task-last body c.args.quant.greedy last.state last.left last.need last.left-test)
    ∙ c.loop-task.invariant)

pub outcomes_of_loop-loop-task-smaller : goal.outcomes_of_loop-loop-task-smaller
outcomes_of_loop-loop-task-smaller t c =
    let context = context_of c.args.self.now in
    let dir = direction_of c.args.direction in
    let body = run context (tree c.args.loopee.now) dir c.args.enclosed.now.start c.args.enclosed.now.end in
    turns_of_tasks-expand body c.args.quant.greedy c.loop-task.tasks.items c.pop.new.self.items c.push_tasks.new.tasks.items
    c.in-Expand.state c.in_ok-next-in-Expand.next.items c.in-Expand.left c.in-Expand.need (omega (arith, c.in-Expand.left-test.1))
    (c.in-Some.ensures.items ∙ ap (λ (task : Task). c.pop.new.self.items ++ task ∷ []) c.in-Expand.is) c.in_ok-push_tasks-in-Expand.ensures
    (c.in_ok-next-in-Expand.ensures ∙ ap (node_outcomes context (tree c.args.loopee.now) dir) c.in_ok-cleared-in-Expand.ensures)

pub outcomes_of_loop-loop-task-preserved : goal.outcomes_of_loop-loop-task-preserved
outcomes_of_loop-loop-task-preserved t c =
    let context = context_of c.args.self.now in
    let dir = direction_of c.args.direction in
    let body = run context (tree c.args.loopee.now) dir c.args.enclosed.now.start c.args.enclosed.now.end in
    ap (λ (ts : List State). map state_of c.loop-task.all.items ++ ts)
    (outcomes_of_tasks-expand body c.args.quant.greedy c.loop-task.tasks.items c.pop.new.self.items c.push_tasks.new.tasks.items
    c.in-Expand.state c.in_ok-next-in-Expand.next.items c.in-Expand.left c.in-Expand.need (omega (arith, c.in-Expand.left-test.1))
    (c.in-Some.ensures.items ∙ ap (λ (task : Task). c.pop.new.self.items ++ task ∷ []) c.in-Expand.is) c.in_ok-push_tasks-in-Expand.ensures
    (c.in_ok-next-in-Expand.ensures ∙ ap (node_outcomes context (tree c.args.loopee.now) dir) c.in_ok-cleared-in-Expand.ensures))
    ∙ c.loop-task.invariant

pub outcomes_of_loop-returns : goal.outcomes_of_loop-returns
outcomes_of_loop-returns t c =
    let context = context_of c.args.self.now in
    let body = run context (tree c.args.loopee.now) (direction_of c.args.direction) c.args.enclosed.now.start c.args.enclosed.now.end in
    let none : c.loop-task.tasks.items ≡ [] = nil_from_length c.loop-task.tasks.items (omega (arith, c.in_default.ensures.cases, c.loop-task.tasks.ok.0)) in
    sym (append-nil (map state_of c.loop-task.all.items))
    ∙ ap (λ (ts : List Task). map state_of c.loop-task.all.items ++ outcomes_of_tasks body c.args.quant.greedy ts) (sym none)
    ∙ c.loop-task.invariant
