use Rattle.std.proofs.Common.{◌≡◌, ℕ, ◌<◌, ◌≤◌}
use Rattle.regress_engine_linear.specs.RankTables.{address_at, heights_of, level_at}
use Rattle.regress_engine_linear.proofs.testing.LinearTable.level_end.Given as goal

-- the addresses so far are of the level
abbrev pub invariant-loop-end : goal.invariant-loop-end
invariant-loop-end l = record {
  level : l.level ≡ level_at (heights_of l.self.ranks) (address_at (heights_of l.self.ranks) l.index);
  same : (k : ℕ) → l.index ≤ k → k < l.end → level_at (heights_of l.self.ranks) (address_at (heights_of l.self.ranks) k)
      ≡ level_at (heights_of l.self.ranks) (address_at (heights_of l.self.ranks) l.index);
}
