use Rattle.regress_meaning.proofs.OutcomeLemmas.{outcomes_ahead}
use Rattle.regress_meaning.proofs.outcomes_go_ahead.Goals as goal

pub returns : goal.returns
returns c = outcomes_ahead
