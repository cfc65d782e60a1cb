use Rattle.std.proofs.Common.{All, take}
use Rattle.regress_front_bytes.specs.Bitmaps.{byte_bitmap_contains}
use Rattle.regress_engine_prefix.specs.FirstBytes.{HasSecond}
use Rattle.regress_engine_prefix.proofs.first_bytes.second_of_chars.Given as goal

-- the set has the second bytes of the code points so far
abbrev pub invariant-loop-c : goal.invariant-loop-c
invariant-loop-c l = All (HasSecond (byte_bitmap_contains l.set)) (take l.c-index l.chars)
