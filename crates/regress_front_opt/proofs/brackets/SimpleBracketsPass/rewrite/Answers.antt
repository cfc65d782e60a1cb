use Rattle.std.proofs.Common.{false}
use Rattle.regress_front_sets.specs.Sets.{ends_in}
use Rattle.regress_front_nodes.specs.Trees.{tree}
use Rattle.regress_front_nodes.specs.TreeMeaning.{direction}
use Rattle.regress_front_nodes.proofs.TreeLaws.{tree-Bracket}
use Rattle.regress_front_opt.proofs.PassLemmas.{passed-refused}
use Rattle.regress_front_opt.proofs.BracketLemmas.{bracket-advances}
use Rattle.regress_front_opt.proofs.brackets.SimpleBracketsPass.rewrite.Goals as goal

pub returns-in_err-other : goal.returns-in_err-other
returns-in_err-other c =
    passed-refused (direction c.args._in_lookbehind) (λ _. false) (tree c.args.node.now) c.from_residual.result c.from_residual.ensures.1

pub returns-in-Some : goal.returns-in-Some
returns-in-Some c =
    let h = rw c.in-Some.is at c.in_ok-other.ensures in
    rw (c.in-Bracket.is, tree-Bracket) (bracket-advances (direction c.args._in_lookbehind) c.in-Bracket.contents.invert (ends_in c.in-Bracket.contents.cps) (tree c.in-Some.other) h.0 h.1)
