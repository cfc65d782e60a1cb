use Rattle.std.proofs.Common.{subst}
use Rattle.regress_engine_prefix.specs.Reaches.{Reaches}
use Rattle.regress_engine_prefix.specs.declared.reach.Reach.TheVariants.{By}
use Rattle.regress_engine_prefix.proofs.ReachLemmas.{Reaches-run}
use Rattle.regress_engine_prefix.proofs.reach.low_landmark.Goals as goal

pub returns-in_ok-ascii_of-in-BehindRun-clause-reaches : goal.returns-in_ok-ascii_of-in-BehindRun-clause-reaches
returns-in_ok-ascii_of-in-BehindRun-clause-reaches c = λ t h.
    let low = c.in_ok-ascii_of-in-BehindRun.field-0 in
    Reaches-run c.in-BehindRun.run' low c.in-BehindRun.byte t c.in_ok-ascii_of-in-BehindRun.ensures.kept (subst (λ l. Reaches (By l) t) c.in-BehindRun.is h)
