use Rattle.regress_meaning.proofs.EmptyNames.{Spells-some}
use Rattle.regress_meaning.proofs.spelled_names_are_not_empty.Goals as goal

pub returns : goal.returns
returns c = Spells-some
