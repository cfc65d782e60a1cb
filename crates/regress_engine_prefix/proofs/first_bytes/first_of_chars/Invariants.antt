use Rattle.std.proofs.Common.{take}
use Rattle.regress_meaning.specs.Text.{holds}
use Rattle.regress_front_bytes.specs.Bitmaps.{byte_bitmap_contains}
use Rattle.regress_engine_prefix.specs.FirstBytes.{AreFirstOf}
use Rattle.regress_engine_prefix.proofs.first_bytes.first_of_chars.Given as goal

abbrev pub invariant-loop-c : goal.invariant-loop-c
invariant-loop-c l = AreFirstOf (holds (take l.c-index l.chars)) (byte_bitmap_contains l.set)
