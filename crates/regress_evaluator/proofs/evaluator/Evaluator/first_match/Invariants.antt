use Rattle.std.proofs.Common.{◌≡◌}
use Rattle.regress_front_nodes.specs.Trees.{tree}
use Rattle.regress_front_nodes.specs.NodeMatches.{node_first_match}
use Rattle.regress_evaluator.specs.StateViews.{context_of}
use Rattle.regress_evaluator.proofs.evaluator.Evaluator.first_match.Given as goal

-- no match begins at a place before
abbrev pub invariant-loop-start : goal.invariant-loop-start
invariant-loop-start l =
    node_first_match (context_of l.self) l.self.group_count (tree l.node) l.place ≡ node_first_match (context_of l.self) l.self.group_count (tree l.node) l.start
