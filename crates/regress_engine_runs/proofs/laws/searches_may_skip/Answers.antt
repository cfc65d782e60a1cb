use Rattle.regress_engine_runs.proofs.ItemLemmas.{skips}
use Rattle.regress_engine_runs.proofs.laws.searches_may_skip.Goals as goal

pub returns : goal.returns
returns c = skips
