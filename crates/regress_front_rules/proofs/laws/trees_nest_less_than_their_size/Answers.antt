use Rattle.regress_front_rules.proofs.ClauseLemmas.{nesting-size}
use Rattle.regress_front_rules.proofs.laws.trees_nest_less_than_their_size.Goals as goal

pub returns : goal.returns
returns c = nesting-size
