use Rattle.std.proofs.Common.{sym, ap, ◌∙◌}
use Rattle.std.proofs.lemmas.Bool.{false≢true}
use Rattle.regress_front_core.specs.Quantifiers.{most}
use Rattle.regress_front_nodes.specs.Trees.{tree}
use Rattle.regress_front_nodes.specs.TreeMeaning.{direction}
use Rattle.regress_front_nodes.proofs.TreeLaws.{tree-Loop}
use Rattle.regress_front_rules.specs.NormalForm.{is_unrollable}
use Rattle.regress_front_rules.specs.Rules.{HasLaws}
use Rattle.regress_front_opt.proofs.NodeKinds.{no-short-loop}
use Rattle.regress_front_opt.proofs.PassLemmas.{passed-refused}
use Rattle.regress_front_opt.proofs.UnrollLemmas.{may-be-unrolled, unrolled-advances}
use Rattle.regress_front_opt.proofs.unrolling.UnrolledLoopsPass.rewrite.Goals as goal

pub unrolled_loop-requires-clause-body : goal.unrolled_loop-requires-clause-body
unrolled_loop-requires-clause-body c =
    let arm = c.in-Loop in
    let short = rw (arm.is, tree-Loop) at c.if-not-is_short_loop.ensures in
    let laws = rw (arm.is, tree-Loop) at c.requires in
    rw c.deref.ensures (may-be-unrolled (tree arm.loopee.value) arm.enclosed_groups.start arm.enclosed_groups.end arm.quant.min (most arm.quant) arm.quant.greedy (laws.0, laws.1.2) (sym short))

pub unrolled_loop-requires-clause-order : goal.unrolled_loop-requires-clause-order
unrolled_loop-requires-clause-order c =
    let laws = rw (c.in-Loop.is, tree-Loop) at c.requires in laws.1.1

pub returns-in_err-other-in-Loop : goal.returns-in_err-other-in-Loop
returns-in_err-other-in-Loop c =
    passed-refused (direction c.args._in_lookbehind) is_unrollable (tree c.args.node.now) c.from_residual.result c.from_residual.ensures.1

pub unreachable-requires : goal.unreachable-requires
unreachable-requires c =
    false≢true (sym (no-short-loop c.args.node.now c.in_default.not-Loop) ∙ sym c.if-not-is_short_loop.ensures)

pub returns : goal.returns
returns c =
    let arm = c.in-Loop in
    let short = rw (arm.is, tree-Loop) at c.if-not-is_short_loop.ensures in
    let copied = rw c.deref.ensures at c.in_ok-other-in-Loop.ensures in
    rw (arm.is, tree-Loop, copied) (unrolled-advances (direction c.args._in_lookbehind) (tree arm.loopee.value) arm.enclosed_groups.start arm.enclosed_groups.end arm.quant.min (most arm.quant) arm.quant.greedy (sym short))
