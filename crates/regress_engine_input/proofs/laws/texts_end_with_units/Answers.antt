use Rattle.regress_engine_input.proofs.KindLemmas.{end}
use Rattle.regress_engine_input.proofs.laws.texts_end_with_units.Goals as goal

pub returns : goal.returns
returns c = λ v all. end v.kind v.units all
