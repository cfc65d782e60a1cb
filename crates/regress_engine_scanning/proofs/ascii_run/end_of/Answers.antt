use Rattle.std.proofs.Common.{◌+◌, ◌≤◌, length, map, arith}
use Rattle.std.proofs.lemmas.List.{length-map}
use Rattle.regress_front_bytes.specs.ByteSets.{has_bit}
use Rattle.regress_front_bytes.specs.Bitmaps.{ascii_bitmap_contains}
use Rattle.regress_engine_scanning.proofs.AsciiRuns.{other-inside, sixteen-masked, run-goes_on, run-stops}
use Rattle.regress_engine_scanning.proofs.ascii_run.end_of.Goals as goal

pub overflow_add-at : goal.overflow_add-at
overflow_add-at g c =
    let a = c.args in
    let contains = ascii_bitmap_contains a.set.now in
    let units = map g.U.Unit.number a.units.now in
    let m = c.marks_of-others.result in
    let size = length-map a.units.now g.U.Unit.number in
    let room : c.loop-at.at + 16 ≤ length units = omega (arith, size, c.if-units-at-ge16.true, c.loop-at.invariant.high) in
    let mask = sixteen-masked contains (has_bit 8 c.rows_of-rows.result) c.rows_of-rows.ensures _ _ m (c.narrowed_from.ensures contains c.requires.fits) c.marks_of-others.ensures in
    let inside = other-inside contains units c.loop-at.at m room mask a.from c.loop-at.invariant.low c.loop-at.invariant.each (omega (arith, c.if-others-ne0.true)) in
    record { fits = omega (arith, inside, room, size, c.ranges.end.fits) }

pub returns-then-others-ne0 : goal.returns-then-others-ne0
returns-then-others-ne0 g c =
    let a = c.args in
    let contains = ascii_bitmap_contains a.set.now in
    let units = map g.U.Unit.number a.units.now in
    let m = c.marks_of-others.result in
    let size = length-map a.units.now g.U.Unit.number in
    let room : c.loop-at.at + 16 ≤ length units = omega (arith, size, c.if-units-at-ge16.true, c.loop-at.invariant.high) in
    let mask = sixteen-masked contains (has_bit 8 c.rows_of-rows.result) c.rows_of-rows.ensures _ _ m (c.narrowed_from.ensures contains c.requires.fits) c.marks_of-others.ensures in
    run-stops contains units c.loop-at.at m room mask a.from c.loop-at.invariant.low c.loop-at.invariant.each a.end c.min.result (omega (arith, c.requires.inside)) (omega (arith, c.if-others-ne0.true)) c.min.ensures

pub loop-at-preserved : goal.loop-at-preserved
loop-at-preserved g c =
    let a = c.args in
    let contains = ascii_bitmap_contains a.set.now in
    let units = map g.U.Unit.number a.units.now in
    let m = c.marks_of-others.result in
    let size = length-map a.units.now g.U.Unit.number in
    let room : c.loop-at.at + 16 ≤ length units = omega (arith, size, c.if-units-at-ge16.true, c.loop-at.invariant.high) in
    let mask = sixteen-masked contains (has_bit 8 c.rows_of-rows.result) c.rows_of-rows.ensures _ _ m (c.narrowed_from.ensures contains c.requires.fits) c.marks_of-others.ensures in
    record {
      low = omega (arith, c.loop-at.invariant.low);
      high = omega (arith, room, size);
      each = run-goes_on contains units c.loop-at.at m room mask a.from c.loop-at.invariant.low c.loop-at.invariant.each (omega (arith, c.if-others-ne0.false));
    }
