use Rattle.std.proofs.Common.{◌≡◌, ℕ, ◌<◌, ◌≤◌, false}
use Rattle.regress_engine_scanning.specs.NibbleSets.{nibble_set_contains}
use Rattle.regress_engine_scanning.proofs.nibble_set.NibbleSet.is_ascii.Given as goal

-- none so far
abbrev pub invariant-loop-byte : goal.invariant-loop-byte
invariant-loop-byte l = (b : ℕ) → 0x80 ≤ b → b < l.byte → nibble_set_contains l.self b ≡ false
