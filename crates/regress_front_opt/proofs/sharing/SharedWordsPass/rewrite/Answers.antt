use Rattle.std.proofs.Common.{false, ap, ◌∙◌}
use Rattle.regress_front_nodes.specs.Trees.{tree}
use Rattle.regress_front_nodes.specs.TreeMeaning.{direction}
use Rattle.regress_front_nodes.proofs.TreeLaws.{tree-Alt}
use Rattle.regress_front_opt.proofs.PassLemmas.{passed-refused, shared-advances}
use Rattle.regress_front_opt.proofs.sharing.SharedWordsPass.rewrite.Goals as goal

pub returns-in_err-other : goal.returns-in_err-other
returns-in_err-other c = passed-refused (direction c.args.in_lookbehind) (λ t. false) (tree c.args.node.now) c.from_residual.result c.from_residual.ensures.1

pub returns-in-Some : goal.returns-in-Some
returns-in-Some c =
    let arm = c.in-Alt in
    shared-advances c.args.in_lookbehind (tree c.args.node.now) (tree c.deref.result.now) (tree c.deref-2.result.now) (tree arm.first.value) (tree arm.second.value) (tree c.in-Some.other)
    c.if-in_lookbehind.false (ap tree arm.is ∙ tree-Alt arm.first arm.second) (ap tree c.deref.ensures) (ap tree c.deref-2.ensures) (rw c.in-Some.is at c.in_ok-other.ensures)
