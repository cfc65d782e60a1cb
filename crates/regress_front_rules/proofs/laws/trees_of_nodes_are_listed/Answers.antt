use Rattle.regress_front_rules.proofs.ListedNodes.{nodes-listed}
use Rattle.regress_front_rules.proofs.laws.trees_of_nodes_are_listed.Goals as goal

pub returns : goal.returns
returns c = nodes-listed
