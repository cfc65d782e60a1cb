use Rattle.std.proofs.Common.{arith}
use Rattle.regress_evaluator.proofs.ReadingLemmas.{IsReadTo_more, points_read, offsets_read}
use Rattle.regress_evaluator.proofs.text.Text.new.Goals as goal

pub loop-start-preserved : goal.loop-start-preserved
loop-start-preserved c =
    IsReadTo_more _ _ _ _ _ _ _ _ _ _ _ c.loop-start.invariant c.in-Some.ensures.steps (cc (c.in_ok-push.ensures.items, c.from.ensures)) c.in_ok-push-2.ensures.items

pub invariant_of-result : goal.invariant_of-result
invariant_of-result c = record {
  each_place = omega (arith, c.in_ok-push-3.ensures.len, c.loop-start.invariant.count);
  in_bytes = λ place within.
      rw c.in_ok-push-3.ensures.items (offsets_read _ _ _ _ _ c.loop-start.invariant c.in-None.ensures.steps.0 place (omega arith));
}

pub returns : goal.returns
returns c = points_read _ _ _ _ _ c.utf8.text c.loop-start.invariant c.in-None.ensures.steps.0
