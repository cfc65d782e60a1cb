use Rattle.regress_meaning.proofs.NumberingLemmas.{Spells-numbers}
use Rattle.regress_meaning.proofs.spelled_trees_are_numbered.Goals as goal

pub returns : goal.returns
returns c = Spells-numbers
