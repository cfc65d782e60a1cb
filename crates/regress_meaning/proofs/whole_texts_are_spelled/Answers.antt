use Rattle.regress_meaning.proofs.WholeTextLemmas.{whole-spelled}
use Rattle.regress_meaning.proofs.whole_texts_are_spelled.Goals as goal

pub returns : goal.returns
returns c = whole-spelled
