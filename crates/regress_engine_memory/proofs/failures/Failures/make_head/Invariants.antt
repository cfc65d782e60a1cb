use Rattle.std.proofs.Common.{◌≡◌, ◌+◌, ◌-◌, length}
use Rattle.regress_engine_memory.proofs.failures.Failures.make_head.Given as goal

-- nothing else changes
abbrev pub invariant-loop-self : goal.invariant-loop-self
invariant-loop-self l = record {
  table : l.self.table ≡ l.initial.self.table;
  planes : l.self.planes.items ≡ l.initial.self.planes.items;
}

-- the buckets that are left
abbrev pub decreases-loop-self : goal.decreases-loop-self
decreases-loop-self l = l.bucket + 1 - length l.self.heads.items
