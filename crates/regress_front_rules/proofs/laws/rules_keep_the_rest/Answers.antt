use Rattle.regress_front_rules.proofs.KeepLemmas.{reaches-keeps}
use Rattle.regress_front_rules.proofs.laws.rules_keep_the_rest.Goals as goal

pub returns : goal.returns
returns c = λ dir t u h. reaches-keeps h
