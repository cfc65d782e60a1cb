use Rattle.regress_meaning.proofs.ReadingLaws.{one_tree}
use Rattle.regress_meaning.proofs.spells_one_tree.Goals as goal

pub returns : goal.returns
returns c = one_tree
