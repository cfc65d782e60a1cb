use Rattle.regress_meaning.proofs.StringLemmas.{Spells-plain, value-plain}
use Rattle.regress_meaning.proofs.classes_without_sets_hold_no_strings.Goals as goal

pub returns-clause-trees : goal.returns-clause-trees
returns-clause-trees c = Spells-plain

pub returns-clause-values : goal.returns-clause-values
returns-clause-values c = value-plain
