use Rattle.std.specs.Prelude.{slice_get}
use Rattle.std.proofs.Common.{◌≡◌, ◌+◌, ◌≤◌, true, length, map, arith}
use Rattle.std.proofs.lemmas.List.{length-map}
use Rattle.regress_meaning.specs.Meaning.{is_some_and}
use Rattle.regress_front_bytes.specs.Bitmaps.{byte_bitmap_contains}
use Rattle.regress_engine_scanning.proofs.HalfTables.{rows-masked}
use Rattle.regress_engine_scanning.proofs.ByteLemmas.{is-there}
use Rattle.regress_engine_scanning.proofs.MarkLemmas.{marked-inside, marked-least, unmarked}
use Rattle.regress_engine_scanning.proofs.ScanLemmas.{unit-marks}
use Rattle.regress_engine_scanning.proofs.byte_set.find.Goals as goal

pub overflow_add-result : goal.overflow_add-result
overflow_add-result g c =
    let a = c.args in
    let test = byte_bitmap_contains a.set.now in
    let units = map g.U.Unit.number a.units.now in
    let at = c.loop-at.at in
    let m = c.marks_of-marks.result in
    let size = length-map a.units.now g.U.Unit.number in
    let room : at + 16 ≤ length units = omega (arith, size, c.loop-at-test.true) in
    let mask = rows-masked test c.rows_of-rows.result c.lower_of-lower.result c.upper_of-upper.result c.rows_of-rows.ensures c.lower_of-lower.ensures c.upper_of-upper.ensures _ _ m (c.narrowed_from.ensures test c.requires.fits) c.marks_of-marks.ensures in
    let tells = unit-marks test units at 16 m room (omega arith) mask in
    let few = marked-inside (λ k. is_some_and (slice_get units k) test ≡ true) 16 a.from at m c.loop-at.invariant.low c.loop-at.invariant.none tells (omega (arith, c.if-marks-ne0.true)) c.marks_of-marks.type_inv in
    record { fits = omega (arith, few, room, size) }

pub returns-then-marks-ne0-clause-least : goal.returns-then-marks-ne0-clause-least
returns-then-marks-ne0-clause-least g c =
    let a = c.args in
    let test = byte_bitmap_contains a.set.now in
    let units = map g.U.Unit.number a.units.now in
    let at = c.loop-at.at in
    let m = c.marks_of-marks.result in
    let size = length-map a.units.now g.U.Unit.number in
    let room : at + 16 ≤ length units = omega (arith, size, c.loop-at-test.true) in
    let mask = rows-masked test c.rows_of-rows.result c.lower_of-lower.result c.upper_of-upper.result c.rows_of-rows.ensures c.lower_of-lower.ensures c.upper_of-upper.ensures _ _ m (c.narrowed_from.ensures test c.requires.fits) c.marks_of-marks.ensures in
    let tells = unit-marks test units at 16 m room (omega arith) mask in
    marked-least (λ k. is_some_and (slice_get units k) test ≡ true) 16 a.from at m c.loop-at.invariant.low c.loop-at.invariant.none tells (omega (arith, c.if-marks-ne0.true)) c.marks_of-marks.type_inv

pub returns-then-marks-ne0-clause-inside : goal.returns-then-marks-ne0-clause-inside
returns-then-marks-ne0-clause-inside g c =
    let units = map g.U.Unit.number c.args.units.now in
    let size = length-map c.args.units.now g.U.Unit.number in
    let found = returns-then-marks-ne0-clause-least g c in
    let there = is-there (byte_bitmap_contains c.args.set.now) units _ found.1 in
    omega (arith, size, there)

pub loop-at-preserved : goal.loop-at-preserved
loop-at-preserved g c =
    let a = c.args in
    let test = byte_bitmap_contains a.set.now in
    let units = map g.U.Unit.number a.units.now in
    let at = c.loop-at.at in
    let m = c.marks_of-marks.result in
    let size = length-map a.units.now g.U.Unit.number in
    let room : at + 16 ≤ length units = omega (arith, size, c.loop-at-test.true) in
    let mask = rows-masked test c.rows_of-rows.result c.lower_of-lower.result c.upper_of-upper.result c.rows_of-rows.ensures c.lower_of-lower.ensures c.upper_of-upper.ensures _ _ m (c.narrowed_from.ensures test c.requires.fits) c.marks_of-marks.ensures in
    let tells = unit-marks test units at 16 m room (omega arith) mask in
    record {
      low = omega (arith, c.loop-at.invariant.low);
      high = omega (arith, room, size);
      none = unmarked (λ k. is_some_and (slice_get units k) test ≡ true) 16 a.from at m c.loop-at.invariant.low c.loop-at.invariant.none tells c.if-marks-ne0.false;
    }
