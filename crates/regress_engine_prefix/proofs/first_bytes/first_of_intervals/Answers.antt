use Rattle.std.proofs.Common.{[]}
use Rattle.regress_meaning.specs.TableParts.{in_intervals}
use Rattle.regress_front_bytes.specs.Bitmaps.{byte_bitmap_contains}
use Rattle.regress_front_sets.proofs.IntervalLemmas.{in_intervals-nil}
use Rattle.regress_engine_prefix.proofs.LeadLemmas.{AreFirstOf-none, AreFirstOf-interval}
use Rattle.regress_engine_prefix.proofs.first_bytes.first_of_intervals.Goals as goal

pub loop-interval-init : goal.loop-interval-init
loop-interval-init c = AreFirstOf-none (in_intervals []) (byte_bitmap_contains c.default-set.result) in_intervals-nil c.default-set.ensures

pub loop-interval-preserved : goal.loop-interval-preserved
loop-interval-preserved c =
    AreFirstOf-interval c.args.intervals.now c.loop-interval.interval-index c.interval-item.result (byte_bitmap_contains c.loop-interval.set)
    (byte_bitmap_contains c.add_utf8_first_bytes_to_bitmap.new.bitmap) c.loop-interval-test.true c.interval-item.is c.loop-interval.invariant
    c.add_utf8_first_bytes_to_bitmap.ensures
