use Rattle.regress_front_tree.proofs.CostLemmas.{cheap}
use Rattle.regress_front_tree.proofs.cheap.lowered_trees_are_cheap.Goals as goal

pub returns : goal.returns
returns c = λ table unicode backward e k p t l h. cheap table unicode h
