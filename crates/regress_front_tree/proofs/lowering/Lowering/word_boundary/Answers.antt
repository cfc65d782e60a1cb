use Rattle.regress_front_tree.specs.Lowering.{of_word_boundary}
use Rattle.regress_front_nodes.proofs.TreeLaws.{tree-WordBoundary}
use Rattle.regress_front_tree.proofs.lowering.Lowering.word_boundary.Goals as goal

pub returns : goal.returns
returns c = rw tree-WordBoundary (λ k. of_word_boundary)
