use Rattle.regress_engine_runs.proofs.SizeLemmas.{count-bounded}
use Rattle.regress_engine_runs.proofs.laws.counts_are_bounded.Goals as goal

pub returns : goal.returns
returns c = count-bounded
