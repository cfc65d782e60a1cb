use Rattle.std.proofs.Common.{take}
use Rattle.regress_meaning.specs.TableParts.{in_intervals}
use Rattle.regress_front_bytes.specs.Bitmaps.{byte_bitmap_contains}
use Rattle.regress_front_sets.specs.Intervals.{ends_of}
use Rattle.regress_engine_prefix.specs.FirstBytes.{AreFirstOf}
use Rattle.regress_engine_prefix.proofs.first_bytes.first_of_intervals.Given as goal

abbrev pub invariant-loop-interval : goal.invariant-loop-interval
invariant-loop-interval l = AreFirstOf (in_intervals (ends_of (take l.interval-index l.intervals))) (byte_bitmap_contains l.set)
