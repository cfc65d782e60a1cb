use Rattle.regress_meaning.specs.Meaning.{Forward}
use Rattle.regress_front_nodes.specs.Trees.{tree}
use Rattle.regress_front_rules.specs.Rules.{Reaches}
use Rattle.regress_front_rules.specs.Weight.{weight}
use Rattle.regress_front_opt.proofs.rounds.settle.Given as goal

-- each round rewrites the tree
abbrev pub invariant-loop : goal.invariant-loop
invariant-loop l = Reaches Forward (tree l.initial.node) (tree l.node)

abbrev pub decreases-loop : goal.decreases-loop
decreases-loop l = weight (tree l.node)
