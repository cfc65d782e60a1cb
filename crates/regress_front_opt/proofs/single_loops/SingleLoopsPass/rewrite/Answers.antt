use Rattle.std.proofs.Common.{sym, ap, ◌∙◌}
use Rattle.std.proofs.lemmas.Bool.{false≢true}
use Rattle.regress_front_core.specs.Quantifiers.{most}
use Rattle.regress_front_nodes.specs.Trees.{tree}
use Rattle.regress_front_nodes.proofs.TreeLaws.{tree-Loop, tree-Loop1CharBody}
use Rattle.regress_front_rules.specs.NormalForm.{is_loop_of_one}
use Rattle.regress_front_opt.proofs.NodeKinds.{no-loop}
use Rattle.regress_front_opt.proofs.AdvanceLemmas.{loop-advances}
use Rattle.regress_front_opt.proofs.single_loops.SingleLoopsPass.rewrite.Goals as goal

pub unreachable-requires : goal.unreachable-requires
unreachable-requires c =
    false≢true (sym (no-loop c.replace.result c.in_default.not-Loop) ∙ ap (λ n. is_loop_of_one (tree n)) c.replace.ensures.value ∙ sym c.if-not-repeats_one_char.ensures)

pub returns : goal.returns
returns c =
    let arm = c.in-Loop in
    let e = sym c.replace.ensures.value ∙ arm.is in
    let one = rw (e, tree-Loop) at c.if-not-repeats_one_char.ensures in
    rw (e, tree-Loop, tree-Loop1CharBody) (loop-advances _ (tree arm.loopee.value) arm.enclosed_groups.start arm.enclosed_groups.end arm.quant.min (most arm.quant) arm.quant.greedy (sym one))
