use Rattle.std.proofs.Common.{◌<◌, ◌+◌, [], ◌∷◌, set, take, rules, arith, refl, sym, ap, ◌∙◌, length, map, length-set}
use Rattle.std.proofs.lemmas.List.{map-append, drop-set-lt, take_more_set, take_all}
use Rattle.std.proofs.lemmas.Grind.{drop_more_same}
use denote.Hole.Carrier.{out}
use Rattle.std.specs.Box.{with_value}
use Rattle.std.specs.Vec.{with_items}
use Rattle.regress_front_nodes.specs.declared.node.Node.TheViews.{out-Node}
use Rattle.regress_front_nodes.specs.Trees.{tree, cat_of, alt}
use Rattle.regress_front_nodes.specs.Forms.{nesting}
use Rattle.regress_front_nodes.specs.TreeMeaning.{direction}
use Rattle.regress_front_nodes.proofs.ChangeLemmas.{nesting-part, nesting-arm}
use Rattle.regress_front_rules.specs.Rules.{stays, in_first, in_second}
use Rattle.regress_front_rules.proofs.KeepLemmas.{reaches-then, reaches-in}
use Rattle.regress_front_opt.proofs.PassLemmas.{visited-both, below-reaches, visited-reaches, reaches-laws, refused, refused-below, below-Alt, below-Cat, alt-laws, part-reaches, parts-reach-so-far, parts-more, part-laws}
use Rattle.regress_front_opt.proofs.VisitLemmas.{visited-Cat, visited-Alt, visited-CaptureGroup, visited-AtomicGroup, visited-Loop, visited-Loop1CharBody, visited-LookaroundAssertion}
use Rattle.regress_front_opt.proofs.visiting.+visit.Goals as goal

pub visit-visit_here-requires : goal.visit-visit_here-requires
visit-visit_here-requires g t c =
    reaches-laws (below-reaches (direction c.args.in_lookbehind) g.P.Pass.broken (tree c.args.node.now) (tree c.visit_below.new.node) c.in_ok-below.below c.in_ok-below.ensures) c.requires

pub visit-returns-in_err-here : goal.visit-returns-in_err-here
visit-returns-in_err-here g t c =
    let dir = direction c.args.in_lookbehind in
    refused dir g.P.Pass.broken (tree c.args.node.now) (tree c.visit_below.new.node) (tree c.visit_here.new.node) c.from_residual-in_err-here.result c.in_err-here.field-0.0
    (below-reaches dir g.P.Pass.broken (tree c.args.node.now) (tree c.visit_below.new.node) c.in_ok-below.below c.in_ok-below.ensures)
    c.in_err-here.ensures c.from_residual-in_err-here.ensures.1

pub visit-returns : goal.visit-returns
visit-returns g t c =
    visited-both (direction c.args.in_lookbehind) g.P.Pass.broken (tree c.args.node.now) (tree c.visit_below.new.node) (tree c.visit_here.new.node) c.in_ok-below.below c.in_ok-here.here
    c.in_ok-below.ensures c.in_ok-here.ensures

pub visit_arms-returns-in_err-begun : goal.visit_arms-returns-in_err-begun
visit_arms-returns-in_err-begun g t c =
    let a = tree c.args.first.now in
    let b = tree c.args.second.now in
    let e = c.in_err-begun.ensures in
    refused-below (direction c.args.in_lookbehind) g.P.Pass.broken (alt a b) (alt a b) (alt (tree c.visit.new.node) b) c.from_residual.result c.in_err-begun.field-0.0
    stays (reaches-in (λ t. alt t b) (λ s t r. in_first r) e.0, e.1) c.from_residual.ensures.1

pub visit_arms-returns-in_err-ended : goal.visit_arms-returns-in_err-ended
visit_arms-returns-in_err-ended g t c =
    let dir = direction c.args.in_lookbehind in
    let a = tree c.args.first.now in
    let b = tree c.args.second.now in
    let a' = tree c.visit.new.node in
    let e = c.in_err-ended.ensures in
    refused-below dir g.P.Pass.broken (alt a b) (alt a' b) (alt a' (tree c.visit-2.new.node)) c.from_residual-in_err-ended.result c.in_err-ended.field-0.0
    (reaches-in (λ t. alt t b) (λ s t r. in_first r) (visited-reaches dir g.P.Pass.broken a a' c.in_ok-begun.begun c.in_ok-begun.ensures))
    (reaches-in (λ t. alt a' t) (λ s t r. in_second r) e.0, e.1) c.from_residual-in_err-ended.ensures.1

pub visit_arms-returns : goal.visit_arms-returns
visit_arms-returns g t c =
    below-Alt (direction c.args.in_lookbehind) g.P.Pass.broken (tree c.args.first.now) (tree c.args.second.now) (tree c.visit.new.node) (tree c.visit-2.new.node) c.in_ok-begun.begun c.in_ok-ended.ended
    c.in_ok-begun.ensures c.in_ok-ended.ensures

pub visit_below-returns-in-Alt : goal.visit_below-returns-in-Alt
unfolding out-Node out
visit_below-returns-in-Alt g t c =
    let arm = c.in-Alt in
    let call = c.visit_arms in
    let both = rw (rw arm.first-is at c.deref_mut-in-Alt.ensures.value, rw arm.second-is at c.deref_mut-in-Alt-2.ensures.value) at call.ensures in
    rw arm.is (visited-Alt (direction c.args.in_lookbehind) g.P.Pass.broken call.result arm.first arm.second (with_value arm.first call.new.first) (with_value arm.second call.new.second) both)

pub visit_below-returns-in-LookaroundAssertion : goal.visit_below-returns-in-LookaroundAssertion
unfolding out-Node out
visit_below-returns-in-LookaroundAssertion g t c =
    let arm = c.in-LookaroundAssertion in
    let call = c.visit in
    let part = rw (rw arm.contents-is at c.deref_mut-in-LookaroundAssertion.ensures.value, arm.backwards-is) at call.ensures in
    rw arm.is (visited-LookaroundAssertion (direction c.args.in_lookbehind) g.P.Pass.broken call.result arm.negate arm.backwards arm.start_group arm.end_group arm.contents (with_value arm.contents call.new.node) part)

pub visit_below-returns-in-CaptureGroup : goal.visit_below-returns-in-CaptureGroup
unfolding out-Node out
visit_below-returns-in-CaptureGroup g t c =
    let arm = c.in-CaptureGroup in
    let call = c.visit-in-CaptureGroup in
    let part = rw (rw arm.contents-is at c.deref_mut-in-CaptureGroup.ensures.value) at call.ensures in
    rw arm.is (visited-CaptureGroup (direction c.args.in_lookbehind) g.P.Pass.broken call.result arm.id arm.contents (with_value arm.contents call.new.node) arm.name part)

pub visit_below-returns-in-AtomicGroup : goal.visit_below-returns-in-AtomicGroup
unfolding out-Node out
visit_below-returns-in-AtomicGroup g t c =
    let arm = c.in-AtomicGroup in
    let call = c.visit-in-AtomicGroup in
    let part = rw (rw arm.contents-is at c.deref_mut-in-AtomicGroup.ensures.value) at call.ensures in
    rw arm.is (visited-AtomicGroup (direction c.args.in_lookbehind) g.P.Pass.broken call.result arm.start_group arm.end_group arm.contents (with_value arm.contents call.new.node) part)

pub visit_below-returns-in-Loop : goal.visit_below-returns-in-Loop
unfolding out-Node out
visit_below-returns-in-Loop g t c =
    let arm = c.in-Loop in
    let call = c.visit-in-Loop in
    let part = rw (rw arm.loopee-is at c.deref_mut-in-Loop.ensures.value) at call.ensures in
    rw arm.is (visited-Loop (direction c.args.in_lookbehind) g.P.Pass.broken call.result arm.loopee (with_value arm.loopee call.new.node) arm.quant arm.enclosed_groups part)

pub visit_below-returns-in-Loop1CharBody : goal.visit_below-returns-in-Loop1CharBody
unfolding out-Node out
visit_below-returns-in-Loop1CharBody g t c =
    let arm = c.in-Loop1CharBody in
    let call = c.visit-in-Loop1CharBody in
    let part = rw (rw arm.loopee-is at c.deref_mut-in-Loop1CharBody.ensures.value) at call.ensures in
    rw arm.is (visited-Loop1CharBody (direction c.args.in_lookbehind) g.P.Pass.broken call.result arm.loopee (with_value arm.loopee call.new.node) arm.quant part)

pub visit_parts-visit-requires : goal.visit_parts-visit-requires
visit_parts-visit-requires g t c κs within =
    let items = c.loop-part.part-items in
    let i = c.loop-part.part-index in
    let inside : c.loop-part.part-index < length c.loop-part.part-items = omega (arith, c.loop-part-test.true, c.loop-part.auto.part-items) in
    let part = nesting-part items c.args.parts.now i c.part-item.result inside c.loop-part.invariant.0 in
    (omega (arith, c.decreases, part), (within, part-laws items c.args.parts.now i c.part-item.result inside c.loop-part.invariant.0 c.requires))

pub visit_parts-returns-in_err-changed : goal.visit_parts-returns-in_err-changed
visit_parts-returns-in_err-changed g t c =
    let dir = direction c.args.in_lookbehind in
    let broken = g.P.Pass.broken in
    let items = c.loop-part.part-items in
    let i = c.loop-part.part-index in
    let ts = map tree c.args.parts.now in
    let inside : c.loop-part.part-index < length c.loop-part.part-items = omega (arith, c.loop-part-test.true, c.loop-part.auto.part-items) in
    let e = c.in_err-changed.ensures in
    refused-below dir broken (cat_of ts) (cat_of (map tree items)) (cat_of (map tree (set items i c.visit.new.node))) c.from_residual.result c.in_err-changed.field-0.0
    (parts-reach-so-far dir broken ts (map tree items) (map tree (take i items)) c.loop-part.changed c.loop-part.invariant.2)
    (part-reaches dir broken items i c.part-item.result c.visit.new.node inside e.0, e.1) c.from_residual.ensures.1

pub visit_parts-loop-part-preserved : goal.visit_parts-loop-part-preserved
visit_parts-loop-part-preserved g t c =
    let dir = direction c.args.in_lookbehind in
    let items = c.loop-part.part-items in
    let i = c.loop-part.part-index in
    let left = c.visit.new.node in
    let inside : c.loop-part.part-index < length c.loop-part.part-items = omega (arith, c.loop-part-test.true, c.loop-part.auto.part-items) in
    let so_far = ap (map tree) (take_more_set items i left inside) ∙ map-append tree (take i items) (left ∷ []) in (
      drop-set-lt (i + 1) items i left (omega arith) ∙ drop_more_same items c.args.parts.now i c.loop-part.invariant.0,
      length-set items i left ∙ c.loop-part.invariant.1,
      rw so_far (parts-more dir g.P.Pass.broken (map tree c.args.parts.now) items i c.part-item.result left (map tree (take i items)) c.loop-part.changed c.in_ok-changed.field-0 inside c.loop-part.invariant.2 c.in_ok-changed.ensures),
    )

pub visit_parts-returns : goal.visit_parts-returns
visit_parts-returns g t c =
    let items = c.loop-part.part-items in
    let all = take_all c.loop-part.part-index items (omega (arith, c.loop-part-test.false, c.loop-part.auto.part-items)) in
    below-Cat (direction c.args.in_lookbehind) g.P.Pass.broken (map tree c.args.parts.now) (map tree items) c.loop-part.changed (rw all at c.loop-part.invariant.2)
