use Rattle.regress_front_rules.proofs.RewriteLemmas.{all-right}
use Rattle.regress_front_rules.proofs.laws.rules_are_right.Goals as goal

pub returns : goal.returns
returns c = all-right
