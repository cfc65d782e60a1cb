use Rattle.std.specs.Prelude.{IfSome}
use Rattle.std.proofs.Common.{subst, sym}
use Rattle.regress_engine_search.specs.Search.{IsPosition}
use Rattle.engine_tests.proofs.failures.ranges_within.Goals as goal

pub loop-preserved : goal.loop-preserved
loop-preserved c = subst (λ s. IfSome c.step.new.position (IsPosition s)) (sym c.step.ensures.kept) c.step.ensures.inside
