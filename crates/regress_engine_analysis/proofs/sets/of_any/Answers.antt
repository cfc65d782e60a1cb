use Rattle.std.proofs.Common.{true}
use Rattle.regress_front_bytes.specs.Bitmaps.{byte_bitmap_contains}
use Rattle.regress_engine_analysis.proofs.FirstOfLemmas.{any-first}
use Rattle.regress_engine_analysis.proofs.sets.of_any.Goals as goal

pub returns : goal.returns
returns c = c.where_read.ensures (λ d. true) (any-first (byte_bitmap_contains c.first_of_intervals.result) c.first_of_intervals.ensures)
