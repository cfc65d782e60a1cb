use Rattle.std.proofs.Common.{ℕ, ◌<◌}
use Rattle.regress_engine_linear.specs.RankTables.{IsBefore, address_at, heights_of}
use Rattle.regress_engine_linear.proofs.ranks.RankTable.are_ordered.Given as goal

-- the addresses so far are in order
abbrev pub invariant-loop-index : goal.invariant-loop-index
invariant-loop-index l = record {
  before : (j k : ℕ) → j < k → k < l.index → IsBefore (heights_of l.self) (address_at (heights_of l.self) j) (address_at (heights_of l.self) k);
}
