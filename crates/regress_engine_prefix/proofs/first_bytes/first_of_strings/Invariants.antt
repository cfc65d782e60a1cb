use Rattle.std.proofs.Common.{map, take}
use Rattle.std.specs.Box.{boxed_slice_items}
use Rattle.regress_front_bytes.specs.Bitmaps.{byte_bitmap_contains}
use Rattle.regress_engine_prefix.specs.FirstBytes.{AreFirstOfStrings}
use Rattle.regress_engine_prefix.proofs.first_bytes.first_of_strings.Given as goal

abbrev pub invariant-loop-string : goal.invariant-loop-string
invariant-loop-string l = AreFirstOfStrings (map boxed_slice_items (take l.string-index l.strings)) (byte_bitmap_contains l.set)
