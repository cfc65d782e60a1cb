use Rattle.regress_front_rules.proofs.RewriteLemmas.{wholes-right}
use Rattle.regress_front_rules.proofs.laws.wholes_are_right.Goals as goal

pub returns : goal.returns
returns c = wholes-right
