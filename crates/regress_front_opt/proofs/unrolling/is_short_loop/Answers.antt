use Rattle.std.proofs.Common.{◌&&◌, nat_le, sym, ap, ◌∙◌}
use Rattle.regress_front_core.specs.Quantifiers.{most}
use Rattle.regress_front_nodes.specs.Trees.{tree}
use Rattle.regress_front_nodes.specs.Sizes.{size}
use Rattle.regress_front_nodes.proofs.TreeLaws.{tree-Loop}
use Rattle.regress_front_opt.specs.Shapes.{is_flat}
use Rattle.regress_front_opt.proofs.NodeKinds.{no-short-loop}
use Rattle.regress_front_opt.proofs.UnrollLemmas.{short-loop}
use Rattle.regress_front_opt.proofs.unrolling.is_short_loop.Goals as goal

pub returns-then-few : goal.returns-then-few
returns-then-few c =
    let arm = c.in-Loop in
    let small = rw c.deref.ensures at c.is_small.ensures in
    rw (arm.is, tree-Loop) (small ∙ sym (ap (λ b. b && (is_flat (tree arm.loopee.value) && nat_le (size (tree arm.loopee.value)) 1280)) c.if-few.true)
    ∙ short-loop (tree arm.loopee.value) arm.enclosed_groups.start arm.enclosed_groups.end arm.quant.min (most arm.quant) arm.quant.greedy)

pub returns-else-few : goal.returns-else-few
returns-else-few c =
    let arm = c.in-Loop in
    rw (arm.is, tree-Loop) (c.if-few.false ∙ sym (ap (λ b. b && (is_flat (tree arm.loopee.value) && nat_le (size (tree arm.loopee.value)) 1280)) c.if-few.false)
    ∙ short-loop (tree arm.loopee.value) arm.enclosed_groups.start arm.enclosed_groups.end arm.quant.min (most arm.quant) arm.quant.greedy)

pub returns-in_default : goal.returns-in_default
returns-in_default c = sym (no-short-loop c.args.node.now c.in_default.not-Loop)
