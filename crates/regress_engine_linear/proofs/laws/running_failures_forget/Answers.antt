use Rattle.regress_engine_linear.proofs.RunsAlike.{fails-anyhow}
use Rattle.regress_engine_linear.proofs.laws.running_failures_forget.Goals as goal

pub returns : goal.returns
returns c = fails-anyhow
