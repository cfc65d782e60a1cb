use Rattle.regress_engine_memory.proofs.HeldLemmas.{learns-held}
use Rattle.regress_engine_memory.proofs.laws.failures_are_learned.Goals as goal

pub returns : goal.returns
returns c = learns-held
