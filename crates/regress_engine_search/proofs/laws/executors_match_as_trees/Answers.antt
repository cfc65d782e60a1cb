use Rattle.regress_engine_search.proofs.ProducerLemmas.{outcome-of_tree}
use Rattle.regress_engine_search.proofs.laws.executors_match_as_trees.Goals as goal

pub returns : goal.returns
returns c = outcome-of_tree
