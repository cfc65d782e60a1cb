use Rattle.std.specs.Prelude.{◌/◌}
use Rattle.std.proofs.Common.{◌≡◌, ℕ, ◌+◌, ◌-◌, length}
use Rattle.regress_engine_memory.specs.BitViews.{has}
use Rattle.regress_engine_memory.proofs.bits.Bits.grow.Given as goal

-- no number is added
abbrev pub invariant-loop-self : goal.invariant-loop-self
invariant-loop-self l = record {
  same : (n : ℕ) → has l.self n ≡ has l.initial.self n;
}

-- the blocks that are missing
abbrev pub decreases-loop-self : goal.decreases-loop-self
decreases-loop-self l = l.number / 256 + 1 - length l.self.blocks.items
