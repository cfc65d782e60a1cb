use Rattle.regress_engine_linear.proofs.Beyond.{goes-beyond}
use Rattle.regress_engine_linear.proofs.laws.runs_go_beyond.Goals as goal

pub returns : goal.returns
returns c = goes-beyond
