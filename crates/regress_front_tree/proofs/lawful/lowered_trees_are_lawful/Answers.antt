use Rattle.regress_front_tree.proofs.LoweredLemmas.{lowered-law}
use Rattle.regress_front_tree.proofs.lawful.lowered_trees_are_lawful.Goals as goal

pub returns : goal.returns
returns c = lowered-law c.classes_without_sets_hold_no_strings.ensures.values
