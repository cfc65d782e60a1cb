use Rattle.regress_engine_runs.proofs.ClosedLemmas.{layout-closed}
use Rattle.regress_engine_runs.proofs.laws.layouts_are_closed.Goals as goal

pub returns : goal.returns
returns c = layout-closed
