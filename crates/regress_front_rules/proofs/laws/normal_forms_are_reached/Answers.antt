use Rattle.regress_front_rules.proofs.NormalLemmas.{normal-reached}
use Rattle.regress_front_rules.proofs.laws.normal_forms_are_reached.Goals as goal

pub returns : goal.returns
returns c = normal-reached
