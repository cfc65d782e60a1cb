use Rattle.std.proofs.Common.{ℕ, ◌<◌}
use Rattle.regress_engine_linear.specs.RankTables.{address_at, heights_of}
use Rattle.regress_engine_linear.proofs.ranks.RankTable.are_there.Given as goal

-- the addresses so far are there
abbrev pub invariant-loop-index : goal.invariant-loop-index
invariant-loop-index l = record { there : (k : ℕ) → k < l.index → address_at (heights_of l.self) k < l.count }
