use Rattle.regress_engine_linear.proofs.RunsAlike.{beside-run}
use Rattle.regress_engine_linear.proofs.laws.running_states_run_alike.Goals as goal

pub returns : goal.returns
returns c = λ flow r v all program suits closed ranked unbounded dir ts n a run reads ss both. beside-run flow r v all program suits closed ranked unbounded run reads ss both
