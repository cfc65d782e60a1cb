use Rattle.std.proofs.Common.{not}
use Rattle.regress_meaning.specs.Meaning.{is_line_end}
use Rattle.regress_front_bytes.specs.Bitmaps.{byte_bitmap_contains}
use Rattle.regress_engine_analysis.proofs.FirstOfLemmas.{in_line-first}
use Rattle.regress_engine_analysis.proofs.sets.of_any_in_line.Goals as goal

pub returns : goal.returns
returns c = c.where_read.ensures (λ d. not (is_line_end d)) (in_line-first (byte_bitmap_contains c.first_of_intervals.result) c.first_of_intervals.ensures)
