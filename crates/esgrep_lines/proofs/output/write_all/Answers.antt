use Rattle.std.proofs.Common.{arith}
use Rattle.esgrep_lines.proofs.PuttingLemmas.{Appends-put}
use Rattle.esgrep_lines.proofs.output.write_all.Goals as goal

pub loop-done-preserved : goal.loop-done-preserved
loop-done-preserved g c = record {
  inside = grind (arith, c.in-Ok.ensures.bound);
  wrote = Appends-put _ _ _ _ _ _ c.in-Ok.ensures.bound c.loop-done.invariant.wrote c.in-Ok.ensures.bytes;
}
