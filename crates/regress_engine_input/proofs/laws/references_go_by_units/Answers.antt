use Rattle.regress_engine_input.proofs.KindLemmas.{repeats}
use Rattle.regress_engine_input.proofs.laws.references_go_by_units.Goals as goal

pub returns : goal.returns
returns c = λ v all. repeats v.kind v.table v.unicode v.units all
