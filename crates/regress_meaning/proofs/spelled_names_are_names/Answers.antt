use Rattle.regress_meaning.proofs.NameLemmas.{Spells-names}
use Rattle.regress_meaning.proofs.spelled_names_are_names.Goals as goal

pub returns : goal.returns
returns c = Spells-names
