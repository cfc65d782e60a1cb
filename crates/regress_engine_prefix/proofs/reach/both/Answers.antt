use Rattle.std.proofs.Common.{subst}
use Rattle.regress_engine_prefix.specs.Reaches.{HoldsTo}
use Rattle.regress_engine_prefix.proofs.reach.both.Goals as goal

pub returns-in-Taken : goal.returns-in-Taken
returns-in-Taken c = λ text place mid end one other. c.both_taken.ensures text place mid end one (subst (λ r. HoldsTo r text mid end) c.in-Taken.is other)

pub returns-in-By : goal.returns-in-By
returns-in-By c = λ text place mid end one other. c.seen_over.ensures text place mid end one (subst (λ r. HoldsTo r text mid end) c.in-By.is other)
