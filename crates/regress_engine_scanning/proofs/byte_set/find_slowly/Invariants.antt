use Rattle.std.proofs.Common.{map}
use Rattle.regress_front_bytes.specs.Bitmaps.{byte_bitmap_contains}
use Rattle.regress_engine_scanning.proofs.ScanLemmas.{NoneTo}
use Rattle.regress_engine_scanning.proofs.byte_set.find_slowly.Given as goal

-- none so far
abbrev pub invariant-loop-index : goal.invariant-loop-index
invariant-loop-index g l = NoneTo (byte_bitmap_contains l.set) (map g.U.Unit.number l.units) l.from l.index
