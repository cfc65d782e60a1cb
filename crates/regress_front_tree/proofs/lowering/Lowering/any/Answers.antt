use Rattle.regress_front_tree.specs.Lowering.{of_any}
use Rattle.regress_front_nodes.proofs.TreeLaws.{tree-MatchAny, tree-MatchAnyExceptLineTerminator}
use Rattle.regress_front_tree.proofs.LoweringLemmas.{Takes-any, Takes-any_in_line}
use Rattle.regress_front_tree.proofs.lowering.Lowering.any.Goals as goal

pub returns-then-scope : goal.returns-then-scope
returns-then-scope c = rw tree-MatchAny (λ k. of_any (Takes-any c.args.scope.now.dot_all c.if-scope.true))

pub returns-else-scope : goal.returns-else-scope
returns-else-scope c = rw tree-MatchAnyExceptLineTerminator (λ k. of_any (Takes-any_in_line c.args.scope.now.dot_all c.if-scope.false))
