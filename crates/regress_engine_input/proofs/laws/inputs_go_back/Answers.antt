use Rattle.regress_engine_input.proofs.KindLemmas.{tells}
use Rattle.regress_engine_input.specs.Views.{input_of, reading_of}
use Rattle.regress_engine_input.proofs.GoingBack.{goes-back}
use Rattle.regress_engine_input.proofs.laws.inputs_go_back.Goals as goal

pub returns : goal.returns
returns c = λ v all. goes-back (input_of v) (reading_of v) (tells v.kind v.table v.unicode v.units all)
