use Rattle.regress_front_rules.proofs.ClauseLemmas.{nodes-redexes}
use Rattle.regress_front_rules.proofs.laws.broken_nodes_are_redexes.Goals as goal

pub returns : goal.returns
returns c = nodes-redexes
