use Rattle.std.proofs.Common.{◌≡◌, map, take, refl, sym, ap, subst, arith}
use Rattle.std.proofs.lemmas.Result.{IfOk-weaker}
use Rattle.regress_front_nodes.specs.Trees.{tree, cat_of}
use Rattle.regress_front_nodes.specs.Forms.{nesting}
use Rattle.regress_front_nodes.proofs.ChangeLemmas.{nesting-part}
use Rattle.regress_front_nodes.proofs.TreeLaws.{tree-LookaroundAssertion, tree-AtomicGroup, tree-Cat, tree-CaptureGroup}
use Rattle.regress_engine_prefix.specs.Prefixes.{IsLawful}
use Rattle.regress_engine_prefix.specs.Reaches.{Reaches}
use Rattle.regress_engine_prefix.proofs.PrefixLemmas.{Foretells-look, lawful-parts}
use Rattle.regress_engine_prefix.proofs.ReachLemmas.{Reaches-still, Reaches-capture, Reaches-atomic, Reaches-no_part, Reaches-part, Reaches-rest, decided-other}
use Rattle.regress_engine_prefix.proofs.reach.+reach.Goals as goal

pub reach_of-reach_of_parts-requires : goal.reach_of-reach_of_parts-requires
reach_of-reach_of_parts-requires t c =
    let same : nesting (tree c.args.node.now) ≡ nesting (cat_of (map tree c.deref.result.now)) = rw (c.in-Cat.is, tree-Cat, c.deref.ensures.value) refl in
    (omega (arith, c.decreases, same), (rw c.deref.ensures.value (lawful-parts c.requires.0 c.in-Cat.parts.items (rw (c.in-Cat.is, tree-Cat) at c.requires.1))))

pub reach_of_parts-reach_of-requires : goal.reach_of_parts-reach_of-requires
reach_of_parts-reach_of-requires t c =
    let parts = c.args.parts.now in
    let k = c.loop-part.part-index in
    let part = c.part-item.result in
    let nested = nesting-part parts parts k part c.loop-part-test.true refl in
    let same = ap (λ n. nesting (tree n)) c.part-item.is in
    (omega (arith, c.decreases, nested, same), subst (λ m. IsLawful (tree m)) (sym c.part-item.is) (c.requires k part c.loop-part-test.true))

pub reach_of-returns-in-CaptureGroup : goal.reach_of-returns-in-CaptureGroup
reach_of-returns-in-CaptureGroup t c =
    rw (c.in-CaptureGroup.is, tree-CaptureGroup, ← c.deref-in-CaptureGroup.ensures)
    (IfOk-weaker c.reach_of.result _ _ (λ r h. Reaches-capture r _ _ (tree c.deref-in-CaptureGroup.result.now) h) c.reach_of.ensures)

pub reach_of-returns-in-AtomicGroup : goal.reach_of-returns-in-AtomicGroup
reach_of-returns-in-AtomicGroup t c =
    rw (c.in-AtomicGroup.is, tree-AtomicGroup, ← c.deref-in-AtomicGroup.ensures)
    (IfOk-weaker c.reach_of-in-AtomicGroup.result _ _ (λ r h. Reaches-atomic r _ _ (tree c.deref-in-AtomicGroup.result.now) h) c.reach_of-in-AtomicGroup.ensures)

pub reach_of_parts-loop-part-init : goal.reach_of_parts-loop-part-init
reach_of_parts-loop-part-init t c = Reaches-no_part c.of_nothing.result c.of_nothing.ensures

pub reach_of_parts-loop-part-preserved : goal.reach_of_parts-loop-part-preserved
reach_of_parts-loop-part-preserved t c =
    Reaches-part _ c.in_ok-reach_of.field-0 c.both-reach.result c.args.parts.now c.loop-part.part-index c.part-item.result c.loop-part-test.true c.part-item.is c.both-reach.ensures
    (subst (λ r. Reaches r (cat_of (map tree (take c.loop-part.part-index c.args.parts.now)))) c.in-Taken.is c.loop-part.invariant) c.in_ok-reach_of.ensures

pub reach_of_parts-returns-in_default : goal.reach_of_parts-returns-in_default
reach_of_parts-returns-in_default t c =
    Reaches-rest c.loop-part.reach c.args.parts.now c.loop-part.part-index (decided-other c.loop-part.reach c.in_default.not-Taken) c.loop-part.invariant

pub reach_of-returns-in-LookaroundAssertion : goal.reach_of-returns-in-LookaroundAssertion
reach_of-returns-in-LookaroundAssertion t c =
    let look = c.in-LookaroundAssertion in
    rw (look.is, tree-LookaroundAssertion) (Reaches-still c.of_nothing.result _ c.of_nothing.ensures (Foretells-look look.negate look.backwards look.start_group look.end_group (tree look.contents.value)))
