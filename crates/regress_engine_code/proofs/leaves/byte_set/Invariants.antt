use Rattle.std.proofs.Common.{◌≡◌, length, take}
use Rattle.regress_engine_code.proofs.leaves.byte_set.Given as goal

-- the bytes so far stand in front
abbrev pub invariant-loop-i : goal.invariant-loop-i
invariant-loop-i l = record { front : take l.i l.chars ≡ take l.i l.bytes; places : length l.chars ≡ 4 }
