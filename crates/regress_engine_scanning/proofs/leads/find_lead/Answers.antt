use Rattle.std.specs.Prelude.{slice_get}
use Rattle.std.specs.Simd.Lanes.{chunk, mask_l}
use Rattle.std.proofs.Common.{◌≡◌, ◌+◌, ◌≤◌, true, length, map, arith}
use Rattle.regress_meaning.specs.Meaning.{is_some_and}
use Rattle.regress_front_bytes.specs.Bitmaps.{byte_bitmap_contains}
use Rattle.regress_engine_scanning.specs.Leads.{has_byte_for}
use Rattle.regress_engine_scanning.proofs.ByteLemmas.{is-there}
use Rattle.regress_engine_scanning.proofs.LeadTables.{leads-masked}
use Rattle.regress_engine_scanning.proofs.MarkLemmas.{marked-inside, marked-least, unmarked}
use Rattle.regress_engine_scanning.proofs.ScanLemmas.{unit-marks}
use Rattle.regress_engine_scanning.proofs.leads.find_lead.Goals as goal

pub overflow_add-result : goal.overflow_add-result
overflow_add-result c =
    let a = c.args in
    let set = byte_bitmap_contains a.set.now in
    let test = has_byte_for set in
    let units = a.units.now in
    let at = c.loop-at.at in
    let m = c.marks_of-marks.result in
    let room : at + 16 ≤ length units = omega (arith, c.loop-at-test.true) in
    let mask : m ≡ mask_l (map test (chunk at 16 units)) = leads-masked set c.rows_of-rows.result c.lower_of-lower.result c.upper_of-upper.result c.rows_of-rows.ensures c.lower_of-lower.ensures c.upper_of-upper.ensures _ _ m c.bytes_for-bytes.ensures c.marks_of-marks.ensures in
    let tells = unit-marks test units at 16 m room (omega arith) mask in
    let few = marked-inside (λ k. is_some_and (slice_get units k) test ≡ true) 16 a.from at m c.loop-at.invariant.low c.loop-at.invariant.none tells (omega (arith, c.if-marks-ne0.true)) c.marks_of-marks.type_inv in
    record { fits = omega (arith, few, room) }

pub returns-then-marks-ne0-clause-least : goal.returns-then-marks-ne0-clause-least
returns-then-marks-ne0-clause-least c =
    let a = c.args in
    let set = byte_bitmap_contains a.set.now in
    let test = has_byte_for set in
    let units = a.units.now in
    let at = c.loop-at.at in
    let m = c.marks_of-marks.result in
    let room : at + 16 ≤ length units = omega (arith, c.loop-at-test.true) in
    let mask : m ≡ mask_l (map test (chunk at 16 units)) = leads-masked set c.rows_of-rows.result c.lower_of-lower.result c.upper_of-upper.result c.rows_of-rows.ensures c.lower_of-lower.ensures c.upper_of-upper.ensures _ _ m c.bytes_for-bytes.ensures c.marks_of-marks.ensures in
    let tells = unit-marks test units at 16 m room (omega arith) mask in
    marked-least (λ k. is_some_and (slice_get units k) test ≡ true) 16 a.from at m c.loop-at.invariant.low c.loop-at.invariant.none tells (omega (arith, c.if-marks-ne0.true)) c.marks_of-marks.type_inv

pub returns-then-marks-ne0-clause-inside : goal.returns-then-marks-ne0-clause-inside
returns-then-marks-ne0-clause-inside c =
    let found = returns-then-marks-ne0-clause-least c in
    is-there (has_byte_for (byte_bitmap_contains c.args.set.now)) c.args.units.now _ found.1

pub loop-at-preserved : goal.loop-at-preserved
loop-at-preserved c =
    let a = c.args in
    let set = byte_bitmap_contains a.set.now in
    let test = has_byte_for set in
    let units = a.units.now in
    let at = c.loop-at.at in
    let m = c.marks_of-marks.result in
    let room : at + 16 ≤ length units = omega (arith, c.loop-at-test.true) in
    let mask : m ≡ mask_l (map test (chunk at 16 units)) = leads-masked set c.rows_of-rows.result c.lower_of-lower.result c.upper_of-upper.result c.rows_of-rows.ensures c.lower_of-lower.ensures c.upper_of-upper.ensures _ _ m c.bytes_for-bytes.ensures c.marks_of-marks.ensures in
    let tells = unit-marks test units at 16 m room (omega arith) mask in
    record {
      low = omega (arith, c.loop-at.invariant.low);
      high = omega (arith, room);
      none = unmarked (λ k. is_some_and (slice_get units k) test ≡ true) 16 a.from at m c.loop-at.invariant.low c.loop-at.invariant.none tells c.if-marks-ne0.false;
    }
