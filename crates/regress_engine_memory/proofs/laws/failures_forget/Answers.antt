use Rattle.regress_engine_memory.proofs.Forgetting.{forgets}
use Rattle.regress_engine_memory.proofs.laws.failures_forget.Goals as goal

pub returns : goal.returns
returns c = forgets
