use Rattle.regress_meaning.proofs.OutcomeLemmas.{outcomes_inside}
use Rattle.regress_meaning.proofs.outcomes_stay_inside.Goals as goal

pub returns : goal.returns
returns c = outcomes_inside
