use Rattle.std.proofs.Common.{length}
use Rattle.regress_engine_memory.proofs.making.leave_regions.Given as goal

-- the regions that are left
abbrev pub decreases-loop-region : goal.decreases-loop-region
decreases-loop-region l = length l.regions.items
