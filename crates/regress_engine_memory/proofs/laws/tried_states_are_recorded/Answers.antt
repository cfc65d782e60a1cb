use Rattle.regress_engine_memory.proofs.HeldLemmas.{trying-held}
use Rattle.regress_engine_memory.proofs.laws.tried_states_are_recorded.Goals as goal

pub returns : goal.returns
returns c = trying-held
