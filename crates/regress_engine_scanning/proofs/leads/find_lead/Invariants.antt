use Rattle.std.proofs.Common.{◌-◌, ◌≤◌, length}
use Rattle.regress_front_bytes.specs.Bitmaps.{byte_bitmap_contains}
use Rattle.regress_engine_scanning.specs.Leads.{has_byte_for}
use Rattle.regress_engine_scanning.proofs.ScanLemmas.{NoneTo}
use Rattle.regress_engine_scanning.proofs.leads.find_lead.Given as goal

-- none so far
abbrev pub invariant-loop-at : goal.invariant-loop-at
invariant-loop-at l = record {
  low : l.from ≤ l.at;
  high : l.at ≤ length l.units;
  none : NoneTo (has_byte_for (byte_bitmap_contains l.set)) l.units l.from l.at;
}

abbrev pub decreases-loop-at : goal.decreases-loop-at
decreases-loop-at l = length l.units - l.at
