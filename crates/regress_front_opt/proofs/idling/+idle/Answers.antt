use Rattle.std.proofs.Common.{map, sym, ap, ◌∙◌}
use Rattle.regress_front_nodes.specs.Trees.{tree}
use Rattle.regress_front_nodes.proofs.TreeLaws.{tree-Cat, tree-LookaroundAssertion}
use Rattle.regress_front_rules.specs.NormalForm.{is_idle}
use Rattle.regress_front_opt.proofs.ShapeLemmas.{all-missed, all-more, idle-parts, plain-means}
use Rattle.regress_front_opt.proofs.idling.+idle.Goals as goal

pub are_idle-returns-then-not-is_idle_node : goal.are_idle-returns-then-not-is_idle_node
are_idle-returns-then-not-is_idle_node t c =
    sym (all-missed is_idle c.args.parts.now c.loop-part.part-index c.part-item.result c.loop-part-test.true
    (ap (λ n. is_idle (tree n)) (sym c.part-item.is) ∙ sym c.if-not-is_idle_node.ensures))

pub are_idle-loop-part-preserved : goal.are_idle-loop-part-preserved
are_idle-loop-part-preserved t c =
    all-more is_idle c.args.parts.now c.loop-part.part-index c.part-item.result c.loop-part-test.true c.loop-part.invariant
    (ap (λ n. is_idle (tree n)) (sym c.part-item.is) ∙ sym c.if-not-is_idle_node.ensures)

pub is_idle_node-returns-in-Cat : goal.is_idle_node-returns-in-Cat
is_idle_node-returns-in-Cat t c =
    let all = rw c.deref.ensures.value at c.are_idle.ensures in
    rw (c.in-Cat.is, tree-Cat) (all ∙ sym (idle-parts (map tree c.in-Cat.parts.items)))

pub is_idle_node-returns-in-LookaroundAssertion : goal.is_idle_node-returns-in-LookaroundAssertion
is_idle_node-returns-in-LookaroundAssertion t c =
    let arm = c.in-LookaroundAssertion in
    let plain = rw c.deref-in-LookaroundAssertion.ensures at c.is_plain_node.ensures in
    rw (arm.is, tree-LookaroundAssertion) (plain ∙ plain-means (tree arm.contents.value))
