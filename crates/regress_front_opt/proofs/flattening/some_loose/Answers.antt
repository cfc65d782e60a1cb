use Rattle.std.proofs.Common.{sym, ap, ◌∙◌}
use Rattle.regress_front_nodes.specs.Trees.{tree}
use Rattle.regress_front_opt.specs.Shapes.{is_loose}
use Rattle.regress_front_opt.proofs.ShapeLemmas.{any-found, any-more}
use Rattle.regress_front_opt.proofs.flattening.some_loose.Goals as goal

pub returns-then-is_loose_node : goal.returns-then-is_loose_node
returns-then-is_loose_node c =
    sym (any-found is_loose c.args.parts.now c.loop-part.part-index c.part-item.result c.loop-part-test.true
    (ap (λ n. is_loose (tree n)) (sym c.part-item.is) ∙ sym c.if-is_loose_node.ensures))

pub loop-part-preserved : goal.loop-part-preserved
loop-part-preserved c =
    any-more is_loose c.args.parts.now c.loop-part.part-index c.part-item.result c.loop-part-test.true c.loop-part.invariant
    (ap (λ n. is_loose (tree n)) (sym c.part-item.is) ∙ sym c.if-is_loose_node.ensures)
