use Rattle.std.proofs.Common.{take}
use Rattle.regress_meaning.specs.Text.{holds}
use Rattle.regress_front_bytes.specs.Bitmaps.{byte_bitmap_contains}
use Rattle.regress_engine_prefix.specs.FirstBytes.{AreFirstOf}
use Rattle.regress_engine_analysis.proofs.sets.first_of_numbers.Given as goal

abbrev pub invariant-loop-number : goal.invariant-loop-number
invariant-loop-number l = AreFirstOf (holds (take l.number-index l.numbers)) (byte_bitmap_contains l.bytes)
