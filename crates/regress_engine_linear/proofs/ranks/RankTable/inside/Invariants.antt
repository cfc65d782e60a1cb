use Rattle.std.proofs.Common.{◌≡◌, ◌+◌, ◌≤◌, drop, length}
use Rattle.regress_engine_linear.specs.RankTables.{below}
use Rattle.regress_engine_linear.proofs.ranks.RankTable.inside.Given as goal

-- those so far, and those from here on, are all
abbrev pub invariant-loop-at : goal.invariant-loop-at
invariant-loop-at l = record {
  all : l.inside + below (length l.self.ranks.items) (drop l.at l.self.outside.items) ≡ below (length l.self.ranks.items) l.self.outside.items;
  few : l.inside + below (length l.self.ranks.items) (drop l.at l.self.outside.items) ≤ length l.self.outside.items;
}
