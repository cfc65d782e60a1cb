use Rattle.std.proofs.Common.{refl, subst}
use Rattle.regress_engine_prefix.specs.Reaches.{Reaches}
use Rattle.regress_engine_prefix.proofs.ReachLemmas.{Reaches-many}
use Rattle.regress_engine_prefix.proofs.reach.of_many.Goals as goal

pub returns-in-Taken : goal.returns-in-Taken
returns-in-Taken c = λ t least most greedy h. Reaches-many c.in-Taken.span _ t least most greedy refl refl refl (subst (λ r. Reaches r t) c.in-Taken.is h)
