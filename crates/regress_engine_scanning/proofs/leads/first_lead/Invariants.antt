use Rattle.regress_front_bytes.specs.Bitmaps.{byte_bitmap_contains}
use Rattle.regress_engine_scanning.specs.Leads.{has_byte_for}
use Rattle.regress_engine_scanning.proofs.ScanLemmas.{NoneTo}
use Rattle.regress_engine_scanning.proofs.leads.first_lead.Given as goal

-- none so far
abbrev pub invariant-loop-index : goal.invariant-loop-index
invariant-loop-index l = NoneTo (has_byte_for (byte_bitmap_contains l.set)) l.units l.from l.index
