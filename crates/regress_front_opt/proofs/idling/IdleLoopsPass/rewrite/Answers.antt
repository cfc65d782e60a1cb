use Rattle.std.proofs.Common.{sym, ap, ◌∙◌}
use Rattle.std.proofs.lemmas.Bool.{false≢true}
use Rattle.regress_front_core.specs.Quantifiers.{most}
use Rattle.regress_front_nodes.specs.Trees.{tree}
use Rattle.regress_front_nodes.specs.TreeMeaning.{direction}
use Rattle.regress_front_nodes.proofs.TreeLaws.{tree-Loop}
use Rattle.regress_front_rules.specs.NormalForm.{is_idle_loop}
use Rattle.regress_front_opt.proofs.NodeKinds.{no-idle-loop}
use Rattle.regress_front_opt.proofs.ShapeLemmas.{idle-removed, idle-kept}
use Rattle.regress_front_opt.proofs.idling.IdleLoopsPass.rewrite.Goals as goal

pub unreachable-requires : goal.unreachable-requires
unreachable-requires c =
    false≢true (sym (no-idle-loop c.replace.result c.in_default.not-Loop) ∙ ap (λ n. is_idle_loop (tree n)) c.replace.ensures.value ∙ sym c.if-not-repeats_nothing.ensures)

pub returns-then-quant-eq0 : goal.returns-then-quant-eq0
returns-then-quant-eq0 c =
    let arm = c.in-Loop in
    let e = sym c.replace.ensures.value ∙ arm.is in
    let idle = rw (e, tree-Loop) at c.if-not-repeats_nothing.ensures in
    rw (e, tree-Loop) (idle-removed (direction c.args._in_lookbehind) (tree arm.loopee.value) arm.enclosed_groups.start arm.enclosed_groups.end arm.quant.min (most arm.quant) arm.quant.greedy (sym idle) c.if-quant-eq0.true)

pub returns-else-quant-eq0 : goal.returns-else-quant-eq0
returns-else-quant-eq0 c =
    let arm = c.in-Loop in
    let e = sym c.replace.ensures.value ∙ arm.is in
    let fits = (rw (e, tree-Loop) at c.requires).1.1 in
    let idle = rw (e, tree-Loop) at c.if-not-repeats_nothing.ensures in
    rw (e, tree-Loop, c.into_inner.ensures) (idle-kept (direction c.args._in_lookbehind) (tree arm.loopee.value) arm.enclosed_groups.start arm.enclosed_groups.end arm.quant.min (most arm.quant) arm.quant.greedy (sym idle) c.if-quant-eq0.false fits)
