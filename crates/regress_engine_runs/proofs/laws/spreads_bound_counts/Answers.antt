use Rattle.regress_engine_runs.proofs.SizeLemmas.{spread-bounded}
use Rattle.regress_engine_runs.proofs.laws.spreads_bound_counts.Goals as goal

pub returns : goal.returns
returns c = spread-bounded
