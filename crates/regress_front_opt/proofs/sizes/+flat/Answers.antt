use Rattle.std.proofs.Common.{map, sym, ap, ◌∙◌}
use Rattle.regress_front_nodes.specs.Trees.{tree}
use Rattle.regress_front_nodes.proofs.TreeLaws.{tree-Cat}
use Rattle.regress_front_opt.specs.Shapes.{is_flat}
use Rattle.regress_front_opt.proofs.ShapeLemmas.{all-missed, all-more}
use Rattle.regress_front_opt.proofs.UnrollLemmas.{flat-parts}
use Rattle.regress_front_opt.proofs.sizes.+flat.Goals as goal

pub are_flat-returns-then-not-is_flat_node : goal.are_flat-returns-then-not-is_flat_node
are_flat-returns-then-not-is_flat_node t c =
    sym (all-missed is_flat c.args.parts.now c.loop-part.part-index c.part-item.result c.loop-part-test.true
    (ap (λ n. is_flat (tree n)) (sym c.part-item.is) ∙ sym c.if-not-is_flat_node.ensures))

pub are_flat-loop-part-preserved : goal.are_flat-loop-part-preserved
are_flat-loop-part-preserved t c =
    all-more is_flat c.args.parts.now c.loop-part.part-index c.part-item.result c.loop-part-test.true c.loop-part.invariant
    (ap (λ n. is_flat (tree n)) (sym c.part-item.is) ∙ sym c.if-not-is_flat_node.ensures)

pub is_flat_node-returns-in-Cat : goal.is_flat_node-returns-in-Cat
is_flat_node-returns-in-Cat t c =
    let all = rw c.deref.ensures.value at c.are_flat.ensures in
    rw (c.in-Cat.is, tree-Cat) (all ∙ sym (flat-parts (map tree c.in-Cat.parts.items)))
