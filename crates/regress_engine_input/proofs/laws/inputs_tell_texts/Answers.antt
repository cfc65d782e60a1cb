use Rattle.regress_engine_input.proofs.KindLemmas.{tells, readable}
use Rattle.regress_engine_input.proofs.laws.inputs_tell_texts.Goals as goal

pub returns-clause-told : goal.returns-clause-told
returns-clause-told c = λ v all. tells v.kind v.table v.unicode v.units all

pub returns-clause-read : goal.returns-clause-read
returns-clause-read c = λ v all. readable v.kind v.table v.unicode v.units all
