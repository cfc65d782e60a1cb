use Rattle.regress_engine_search.proofs.SkipLemmas.{layout-skips}
use Rattle.regress_engine_search.proofs.laws.start_predicates_may_skip.Goals as goal

pub returns : goal.returns
returns c = layout-skips
