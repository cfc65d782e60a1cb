use Rattle.std.proofs.Common.{◌≡◌, ◌≤◌, length, take}
use Rattle.regress_engine_prefix.proofs.joining.shared_len.Given as goal

abbrev pub invariant-loop-i : goal.invariant-loop-i
invariant-loop-i l = record { within : l.i ≤ length l.second; shared : take l.i l.first ≡ take l.i l.second }
