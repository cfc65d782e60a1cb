use Rattle.std.proofs.Common.{map, sym, ap, ◌∙◌}
use Rattle.regress_front_nodes.specs.Trees.{tree}
use Rattle.regress_front_nodes.proofs.TreeLaws.{tree-Cat}
use Rattle.regress_front_opt.specs.Shapes.{is_plain}
use Rattle.regress_front_opt.proofs.ShapeLemmas.{all-missed, all-more, plain-parts}
use Rattle.regress_front_opt.proofs.failing.+plain.Goals as goal

pub are_plain-returns-then-not-is_plain_node : goal.are_plain-returns-then-not-is_plain_node
are_plain-returns-then-not-is_plain_node t c =
    sym (all-missed is_plain c.args.parts.now c.loop-part.part-index c.part-item.result c.loop-part-test.true
    (ap (λ n. is_plain (tree n)) (sym c.part-item.is) ∙ sym c.if-not-is_plain_node.ensures))

pub are_plain-loop-part-preserved : goal.are_plain-loop-part-preserved
are_plain-loop-part-preserved t c =
    all-more is_plain c.args.parts.now c.loop-part.part-index c.part-item.result c.loop-part-test.true c.loop-part.invariant
    (ap (λ n. is_plain (tree n)) (sym c.part-item.is) ∙ sym c.if-not-is_plain_node.ensures)

pub is_plain_node-returns-in-Cat : goal.is_plain_node-returns-in-Cat
is_plain_node-returns-in-Cat t c =
    let all = rw c.deref.ensures.value at c.are_plain.ensures in
    rw (c.in-Cat.is, tree-Cat) (all ∙ sym (plain-parts (map tree c.in-Cat.parts.items)))
