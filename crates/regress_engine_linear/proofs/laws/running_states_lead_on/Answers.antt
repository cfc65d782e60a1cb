use Rattle.regress_engine_linear.proofs.Running.{running-step}
use Rattle.regress_engine_linear.proofs.laws.running_states_lead_on.Goals as goal

pub returns : goal.returns
returns c = running-step
