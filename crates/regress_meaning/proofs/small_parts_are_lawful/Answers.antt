use Rattle.regress_meaning.proofs.TableLemmas.{small_parts-lawful}
use Rattle.regress_meaning.proofs.small_parts_are_lawful.Goals as goal

pub returns : goal.returns
returns c = small_parts-lawful
