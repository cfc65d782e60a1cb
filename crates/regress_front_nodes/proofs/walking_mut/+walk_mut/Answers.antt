use Rattle.std.proofs.Common.{of_calls, suc, ◌+◌, ◌<◌, ◌≤◌, [], ◌∷◌, ◌++◌, length, map, take, refl, sym, ap, ◌∙◌, append_assoc, append-nil, length-set, arith}
use Rattle.std.proofs.lemmas.List.{with_items_is, drop_all, take_all, drop_more, drop-set-lt, take_more_set}
use Rattle.std.proofs.lemmas.Grind.{drop_more_same}
use denote.Hole.Carrier.{out}
use Rattle.std.specs.Box.{with_value}
use Rattle.std.specs.Vec.{with_items}
use Rattle.regress_front_nodes.specs.declared.node.Node.TheViews.{out-Node}
use Rattle.regress_front_nodes.specs.Trees.{tree, cat_of}
use Rattle.regress_front_nodes.specs.Forms.{nesting}
use Rattle.regress_front_nodes.specs.Changes.{no_node, skipped, first_above, first_below}
use Rattle.regress_front_nodes.proofs.TreeLaws.{tree-Cat}
use Rattle.regress_front_nodes.proofs.WalkLemmas.{told-at, counted-more, nothing_below}
use Rattle.regress_front_nodes.proofs.ChangeLemmas.{Changes-by, nesting-part, nesting-arm, shell-Cat, shell-Alt, shell-CaptureGroup, shell-AtomicGroup, shell-LookaroundAssertion, shell-Loop, shell-Loop1CharBody, Changing-then, changes-Cat, changes-Alt, changes-CaptureGroup, changes-AtomicGroup, changes-LookaroundAssertion, changes-Loop, changes-Loop1CharBody}
use Rattle.regress_front_nodes.proofs.walking_mut.+walk_mut.Goals as goal

pub visit_mut-returns-then-mode-clause-visited : goal.visit_mut-returns-then-mode-clause-visited
visit_mut-returns-then-mode-clause-visited g t c = λ d counted.
    first_below c.if-mode.true (c.visit_below_mut.ensures.visited d counted) (record { kept = c.visit_below_mut.ensures.kept; placed = refl })
    (Changes-by g.F.FnMut (told-at c.args.mode.unicode d c.args.depth c.args.in_lookbehind counted) c.func.ensures)
    no_node

pub visit_mut-returns-then-not-walk-clause-visited : goal.visit_mut-returns-then-not-walk-clause-visited
visit_mut-returns-then-not-walk-clause-visited g t c = λ d counted.
    first_above c.if-mode.false
    (Changes-by g.F.FnMut (told-at c.args.mode.unicode d c.args.depth c.args.in_lookbehind counted) c.func-2.ensures)
    c.if-not-walk.true (c.visit_below_mut-then-not-walk.ensures.visited d counted) (record { kept = c.visit_below_mut-then-not-walk.ensures.kept; placed = refl }) no_node

pub visit_mut-returns-else-not-walk-clause-visited : goal.visit_mut-returns-else-not-walk-clause-visited
visit_mut-returns-else-not-walk-clause-visited g t c = λ d counted.
    skipped c.if-mode.false
    (Changes-by g.F.FnMut (told-at c.args.mode.unicode d c.args.depth c.args.in_lookbehind counted) c.func-2.ensures)
    c.if-not-walk.false no_node

pub visit_mut-visit_below_mut-requires : goal.visit_mut-visit_below_mut-requires
visit_mut-visit_below_mut-requires g t c κs within = (omega (arith, c.decreases), (within, (c.requires.callable, c.requires.no_deeper)))

pub visit_mut-visit_below_mut-requires-then-not-walk : goal.visit_mut-visit_below_mut-requires-then-not-walk
visit_mut-visit_below_mut-requires-then-not-walk g t c κs within =
    let no_deeper = c.requires.no_deeper c.if-mode.false _ _ _ _ _ _ (Changes-by g.F.FnMut refl c.func-2.ensures) in
    (omega (arith, c.decreases, no_deeper), (within, (search of_calls, c.requires.no_deeper)))

pub visit_below_mut-visit_mut-requires-in-Alt : goal.visit_below_mut-visit_mut-requires-in-Alt
visit_below_mut-visit_mut-requires-in-Alt g t c κs within =
    let first = ap (λ n. nesting (tree n)) (rw c.in-Alt.first-is at c.deref_mut.ensures.value) in
    let arm = nesting-arm c.args.node.now c.in-Alt.first c.in-Alt.second c.in-Alt.is in
    (omega (arith, c.decreases, first, arm), (within, (c.requires.callable, c.requires.no_deeper)))

pub visit_below_mut-visit_mut-requires : goal.visit_below_mut-visit_mut-requires
visit_below_mut-visit_mut-requires g t c κs within =
    let parts = rw c.in-Cat.parts-is at c.deref_mut-part-items.ensures.value in
    let whole = ap (λ n. nesting (tree n)) c.in-Cat.is ∙ ap nesting (tree-Cat c.in-Cat.parts) ∙ sym (ap (λ ns. nesting (cat_of (map tree ns))) parts) in
    let inside : c.loop-part.part-index < length c.loop-part.part-items = omega (arith, c.loop-part-test.true, c.loop-part.auto.part-items) in
    let part = nesting-part c.loop-part.part-items c.deref_mut-part-items.result.now c.loop-part.part-index c.part-item.result inside c.loop-part.invariant.1 in
    (omega (arith, c.decreases, whole, part), (within, (c.loop-part.invariant.0, c.requires.no_deeper)))

pub visit_below_mut-loop-part-preserved : goal.visit_below_mut-loop-part-preserved
visit_below_mut-loop-part-preserved g t c =
    let i = c.loop-part.part-index in
    let items = c.loop-part.part-items in
    let left = c.visit_mut.new.node in
    let inside : c.loop-part.part-index < length c.loop-part.part-items = omega (arith, c.loop-part-test.true, c.loop-part.auto.part-items) in
    let others_kept = drop-set-lt (i + 1) items i left (omega arith) in (
      c.visit_mut.ensures.callable,
      others_kept ∙ drop_more_same items c.deref_mut-part-items.result.now i c.loop-part.invariant.1,
      length-set items i left ∙ c.loop-part.invariant.2,
      λ d others last counted rest.
          let part = c.visit_mut.ensures.visited d counted in
          let from_here = drop_more items i c.part-item.result inside in
          let so_far = ap (λ ns. ns ++ others) (take_more_set items i left inside) ∙ append_assoc (take i items) (left ∷ []) others in
          let both = Changing-then g.F.FnMut c.args.mode.postorder c.args.mode.unicode part (rw others_kept at rest) in
          rw so_far (c.loop-part.invariant.3 d (left ∷ others) last counted (rw from_here both)),
    )

pub visit_below_mut-returns-after-loop-part-clause-visited : goal.visit_below_mut-returns-after-loop-part-clause-visited
unfolding out-Node out
visit_below_mut-returns-after-loop-part-clause-visited g t c = λ d counted.
    let deeper = c.saturating_add-deeper.ensures ∙ counted-more d c.args.depth counted in
    let parts = rw c.in-Cat.parts-is at c.deref_mut-part-items.ensures.value in
    let past : length c.loop-part.part-items ≤ c.loop-part.part-index = omega (arith, c.loop-part-test.false, c.loop-part.auto.part-items) in
    let none = drop_all c.loop-part.part-index c.loop-part.part-items past in
    let all = take_all c.loop-part.part-index c.loop-part.part-items past in
    let placed = with_items_is c.in-Cat.parts c.loop-part.part-items (c.loop-part.invariant.2 ∙ ap length parts ∙ sym c.in-Cat.parts.ok.0) in
    let walked = c.loop-part.invariant.3 (suc d) [] c.loop-part.func deeper (rw none no_node) in
    let changed = changes-Cat g.F.FnMut c.args.mode.postorder c.args.mode.unicode (suc d) c.args.in_lookbehind c.args.func.now c.loop-part.func
    c.in-Cat.parts (with_items c.in-Cat.parts c.loop-part.part-items) (rw placed (rw (append-nil, all, parts) at walked)) in
    rw (c.in-Cat.parts-is, c.in-Cat.is) changed

pub visit_below_mut-returns-after-loop-part-clause-kept : goal.visit_below_mut-returns-after-loop-part-clause-kept
unfolding out-Node out
visit_below_mut-returns-after-loop-part-clause-kept g t c =
    let parts = rw c.in-Cat.parts-is at c.deref_mut-part-items.ensures.value in
    let same = c.loop-part.invariant.2 ∙ ap length parts in
    let placed = with_items_is c.in-Cat.parts c.loop-part.part-items (same ∙ sym c.in-Cat.parts.ok.0) in
    let kept = shell-Cat c.in-Cat.parts (with_items c.in-Cat.parts c.loop-part.part-items) (ap length placed ∙ same) in
    rw (c.in-Cat.parts-is, c.in-Cat.is) kept

pub visit_below_mut-returns-in-Alt-clause-visited : goal.visit_below_mut-returns-in-Alt-clause-visited
unfolding out-Node out
visit_below_mut-returns-in-Alt-clause-visited g t c = λ d counted.
    let deeper = c.saturating_add-deeper.ensures ∙ counted-more d c.args.depth counted in
    let first = rw (rw c.in-Alt.first-is at c.deref_mut.ensures.value) at (c.visit_mut-in-Alt.ensures.visited (suc d) deeper) in
    let second = rw (rw c.in-Alt.second-is at c.deref_mut-in-Alt.ensures.value) at (c.visit_mut-in-Alt-2.ensures.visited (suc d) deeper) in
    rw c.in-Alt.is (changes-Alt g.F.FnMut c.args.mode.postorder c.args.mode.unicode (suc d) c.args.in_lookbehind c.args.func.now c.visit_mut-in-Alt-2.new.func
    c.in-Alt.first c.in-Alt.second (with_value c.in-Alt.first c.visit_mut-in-Alt.new.node) (with_value c.in-Alt.second c.visit_mut-in-Alt-2.new.node)
    (Changing-then g.F.FnMut c.args.mode.postorder c.args.mode.unicode first second))

pub visit_below_mut-returns-in-Alt-clause-kept : goal.visit_below_mut-returns-in-Alt-clause-kept
unfolding out-Node out
visit_below_mut-returns-in-Alt-clause-kept g t c = rw c.in-Alt.is (shell-Alt c.in-Alt.first c.in-Alt.second
    (with_value c.in-Alt.first c.visit_mut-in-Alt.new.node) (with_value c.in-Alt.second c.visit_mut-in-Alt-2.new.node))

pub visit_below_mut-returns-in-LookaroundAssertion-clause-visited : goal.visit_below_mut-returns-in-LookaroundAssertion-clause-visited
unfolding out-Node out
visit_below_mut-returns-in-LookaroundAssertion-clause-visited g t c = λ d counted.
    let arm = c.in-LookaroundAssertion in
    let call = c.visit_mut-in-LookaroundAssertion in
    let deeper = c.saturating_add-deeper.ensures ∙ counted-more d c.args.depth counted in
    let part = rw (rw arm.contents-is at c.deref_mut-in-LookaroundAssertion.ensures.value, arm.backwards-is) at (call.ensures.visited (suc d) deeper) in
    rw arm.is (changes-LookaroundAssertion g.F.FnMut c.args.mode.postorder c.args.mode.unicode (suc d) c.args.in_lookbehind c.args.func.now call.new.func
    arm.negate arm.backwards arm.start_group arm.end_group arm.contents (with_value arm.contents call.new.node) part)

pub visit_below_mut-returns-in-LookaroundAssertion-clause-kept : goal.visit_below_mut-returns-in-LookaroundAssertion-clause-kept
unfolding out-Node out
visit_below_mut-returns-in-LookaroundAssertion-clause-kept g t c =
    let arm = c.in-LookaroundAssertion in
    let call = c.visit_mut-in-LookaroundAssertion in
    rw arm.is (shell-LookaroundAssertion arm.negate arm.backwards arm.start_group arm.end_group arm.contents (with_value arm.contents call.new.node))

pub visit_below_mut-returns-in-CaptureGroup-clause-visited : goal.visit_below_mut-returns-in-CaptureGroup-clause-visited
unfolding out-Node out
visit_below_mut-returns-in-CaptureGroup-clause-visited g t c = λ d counted.
    let arm = c.in-CaptureGroup in
    let call = c.visit_mut-in-CaptureGroup in
    let deeper = c.saturating_add-deeper.ensures ∙ counted-more d c.args.depth counted in
    let part = rw (rw arm.contents-is at c.deref_mut-in-CaptureGroup.ensures.value) at (call.ensures.visited (suc d) deeper) in
    rw arm.is (changes-CaptureGroup g.F.FnMut c.args.mode.postorder c.args.mode.unicode (suc d) c.args.in_lookbehind c.args.func.now call.new.func
    arm.id arm.contents (with_value arm.contents call.new.node) arm.name part)

pub visit_below_mut-returns-in-CaptureGroup-clause-kept : goal.visit_below_mut-returns-in-CaptureGroup-clause-kept
unfolding out-Node out
visit_below_mut-returns-in-CaptureGroup-clause-kept g t c =
    let arm = c.in-CaptureGroup in
    let call = c.visit_mut-in-CaptureGroup in
    rw arm.is (shell-CaptureGroup arm.id arm.contents (with_value arm.contents call.new.node) arm.name)

pub visit_below_mut-returns-in-AtomicGroup-clause-visited : goal.visit_below_mut-returns-in-AtomicGroup-clause-visited
unfolding out-Node out
visit_below_mut-returns-in-AtomicGroup-clause-visited g t c = λ d counted.
    let arm = c.in-AtomicGroup in
    let call = c.visit_mut-in-AtomicGroup in
    let deeper = c.saturating_add-deeper.ensures ∙ counted-more d c.args.depth counted in
    let part = rw (rw arm.contents-is at c.deref_mut-in-AtomicGroup.ensures.value) at (call.ensures.visited (suc d) deeper) in
    rw arm.is (changes-AtomicGroup g.F.FnMut c.args.mode.postorder c.args.mode.unicode (suc d) c.args.in_lookbehind c.args.func.now call.new.func
    arm.start_group arm.end_group arm.contents (with_value arm.contents call.new.node) part)

pub visit_below_mut-returns-in-AtomicGroup-clause-kept : goal.visit_below_mut-returns-in-AtomicGroup-clause-kept
unfolding out-Node out
visit_below_mut-returns-in-AtomicGroup-clause-kept g t c =
    let arm = c.in-AtomicGroup in
    let call = c.visit_mut-in-AtomicGroup in
    rw arm.is (shell-AtomicGroup arm.start_group arm.end_group arm.contents (with_value arm.contents call.new.node))

pub visit_below_mut-returns-in-Loop-clause-visited : goal.visit_below_mut-returns-in-Loop-clause-visited
unfolding out-Node out
visit_below_mut-returns-in-Loop-clause-visited g t c = λ d counted.
    let arm = c.in-Loop in
    let call = c.visit_mut-in-Loop in
    let deeper = c.saturating_add-deeper.ensures ∙ counted-more d c.args.depth counted in
    let part = rw (rw arm.loopee-is at c.deref_mut-in-Loop.ensures.value) at (call.ensures.visited (suc d) deeper) in
    rw arm.is (changes-Loop g.F.FnMut c.args.mode.postorder c.args.mode.unicode (suc d) c.args.in_lookbehind c.args.func.now call.new.func
    arm.loopee (with_value arm.loopee call.new.node) arm.quant arm.enclosed_groups part)

pub visit_below_mut-returns-in-Loop-clause-kept : goal.visit_below_mut-returns-in-Loop-clause-kept
unfolding out-Node out
visit_below_mut-returns-in-Loop-clause-kept g t c =
    let arm = c.in-Loop in
    let call = c.visit_mut-in-Loop in
    rw arm.is (shell-Loop arm.loopee (with_value arm.loopee call.new.node) arm.quant arm.enclosed_groups)

pub visit_below_mut-returns-in-Loop1CharBody-clause-visited : goal.visit_below_mut-returns-in-Loop1CharBody-clause-visited
unfolding out-Node out
visit_below_mut-returns-in-Loop1CharBody-clause-visited g t c = λ d counted.
    let arm = c.in-Loop1CharBody in
    let call = c.visit_mut-in-Loop1CharBody in
    let deeper = c.saturating_add-deeper.ensures ∙ counted-more d c.args.depth counted in
    let part = rw (rw arm.loopee-is at c.deref_mut-in-Loop1CharBody.ensures.value) at (call.ensures.visited (suc d) deeper) in
    rw arm.is (changes-Loop1CharBody g.F.FnMut c.args.mode.postorder c.args.mode.unicode (suc d) c.args.in_lookbehind c.args.func.now call.new.func
    arm.loopee (with_value arm.loopee call.new.node) arm.quant part)

pub visit_below_mut-returns-in-Loop1CharBody-clause-kept : goal.visit_below_mut-returns-in-Loop1CharBody-clause-kept
unfolding out-Node out
visit_below_mut-returns-in-Loop1CharBody-clause-kept g t c =
    let arm = c.in-Loop1CharBody in
    let call = c.visit_mut-in-Loop1CharBody in
    rw arm.is (shell-Loop1CharBody arm.loopee (with_value arm.loopee call.new.node) arm.quant)

pub visit_below_mut-returns-in_default : goal.visit_below_mut-returns-in_default
visit_below_mut-returns-in_default g t c = record {
  visited = λ d counted. let i = c.in_default in
      rw (nothing_below c.args.node.now i.not-Cat i.not-Alt i.not-CaptureGroup i.not-LookaroundAssertion i.not-AtomicGroup i.not-Loop i.not-Loop1CharBody) no_node;
  kept = refl;
  callable = c.requires.callable;
}
