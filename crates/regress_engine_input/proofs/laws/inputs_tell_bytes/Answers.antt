use Rattle.regress_engine_input.proofs.KindLemmas.{tells_bytes}
use Rattle.regress_engine_input.proofs.laws.inputs_tell_bytes.Goals as goal

pub returns : goal.returns
returns c = λ v all. tells_bytes v.kind v.table v.unicode v.units all
