use Rattle.regress_meaning.proofs.WeightLemmas.{Spells-weight, Spells-groups, Spells-loops}
use Rattle.regress_meaning.proofs.spelled_trees_are_small.Goals as goal

pub returns-clause-weight : goal.returns-clause-weight
returns-clause-weight c = Spells-weight

pub returns-clause-groups : goal.returns-clause-groups
returns-clause-groups c = Spells-groups

pub returns-clause-quantifiers : goal.returns-clause-quantifiers
returns-clause-quantifiers c = Spells-loops
