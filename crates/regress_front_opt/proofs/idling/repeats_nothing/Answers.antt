use Rattle.std.proofs.Common.{sym, ◌∙◌}
use Rattle.regress_front_core.specs.Quantifiers.{most}
use Rattle.regress_front_nodes.specs.Trees.{tree}
use Rattle.regress_front_nodes.proofs.TreeLaws.{tree-Loop}
use Rattle.regress_front_opt.proofs.NodeKinds.{no-idle-loop}
use Rattle.regress_front_opt.proofs.ShapeLemmas.{never-idle}
use Rattle.regress_front_opt.proofs.idling.repeats_nothing.Goals as goal

pub returns-in_default : goal.returns-in_default
returns-in_default c = sym (no-idle-loop c.args.node.now c.in_default.not-Loop)

pub returns-then-most-eq0 : goal.returns-then-most-eq0
returns-then-most-eq0 c =
    let arm = c.in-Loop in
    let idle = rw c.deref.ensures at c.if-is_idle_node.ensures in
    let plain = rw c.deref-then-most-eq0.ensures at c.is_plain_node.ensures in
    plain ∙ rw (arm.is, tree-Loop) (never-idle (tree arm.loopee.value) arm.enclosed_groups.start arm.enclosed_groups.end arm.quant.min (most arm.quant) arm.quant.greedy (sym idle) (sym c.most.ensures ∙ c.if-most-eq0.true))
