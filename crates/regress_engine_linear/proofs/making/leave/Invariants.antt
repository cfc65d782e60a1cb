use Rattle.std.proofs.Common.{length}
use Rattle.regress_engine_linear.proofs.making.leave.Given as goal

-- the contents that are left
abbrev pub decreases-loop-contents : goal.decreases-loop-contents
decreases-loop-contents l = length l.around.items
