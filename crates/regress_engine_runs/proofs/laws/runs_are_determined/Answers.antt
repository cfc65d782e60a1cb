use Rattle.regress_engine_runs.proofs.Computed.{one_run}
use Rattle.regress_engine_runs.proofs.laws.runs_are_determined.Goals as goal

pub returns : goal.returns
returns c program input dir ss n m r q h k = one_run program input h k
