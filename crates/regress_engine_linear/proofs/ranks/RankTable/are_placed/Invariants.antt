use Rattle.std.proofs.Common.{◌≡◌, ℕ, ◌<◌, length}
use Rattle.regress_engine_linear.specs.RankTables.{address_at, heights_of, index_at, rank_at}
use Rattle.regress_engine_linear.proofs.ranks.RankTable.are_placed.Given as goal

-- the addresses so far are placed
abbrev pub invariant-loop-at : goal.invariant-loop-at
invariant-loop-at l = record {
  placed : (j : ℕ) → j < l.at → (rank_at (heights_of l.self) j < length l.self.order.items) × (index_at (heights_of l.self) j < length l.self.order.items)
      × (address_at (heights_of l.self) (index_at (heights_of l.self) j) ≡ j);
}
