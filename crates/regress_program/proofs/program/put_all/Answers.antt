use Rattle.std.proofs.Common.{arith}
use Rattle.regress_program.proofs.RunLemmas.{Appends-put}
use Rattle.regress_program.proofs.program.put_all.Goals as goal

pub loop-done-preserved : goal.loop-done-preserved
loop-done-preserved g c = record {
  inside = grind arith;
  going = c.in_ok-done.ensures.failure;
  wrote = Appends-put _ _ _ _ _ _ c.in_ok-done.ensures.bound c.loop-done.invariant.wrote c.in_ok-done.ensures.bytes;
}
