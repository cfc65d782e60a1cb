use Rattle.std.specs.Prelude.{slice_get}
use Rattle.std.proofs.Common.{◌≡◌, true, arith}
use Rattle.regress_meaning.specs.Meaning.{is_some_and}
use Rattle.regress_engine_scanning.proofs.ByteLemmas.{is-there}
use Rattle.regress_engine_scanning.proofs.MarkLemmas.{marked-least, unmarked}
use Rattle.regress_engine_scanning.proofs.ScanLemmas.{unit-marks, mask-small}
use Rattle.regress_engine_scanning.proofs.units.find_member.Goals as goal

pub returns-then-marks-ne0-clause-least : goal.returns-then-marks-ne0-clause-least
returns-then-marks-ne0-clause-least g c =
    let test = g.Set.UnitSet.contains c.args.set.now in
    let units = c.args.units.now in
    let m = c.marks-marks.result in
    let room = c.loop-at-test.true in
    let tells = unit-marks test units c.loop-at.at 32 m (omega (arith, room)) (omega arith) c.marks-marks.ensures in
    marked-least (λ k. is_some_and (slice_get units k) test ≡ true) 32 c.args.from c.loop-at.at m c.loop-at.invariant.low c.loop-at.invariant.none tells
    (omega (arith, c.if-marks-ne0.true)) (mask-small test units c.loop-at.at 32 m (omega (arith, room)) (omega arith) c.marks-marks.ensures)

pub returns-then-marks-ne0-clause-inside : goal.returns-then-marks-ne0-clause-inside
returns-then-marks-ne0-clause-inside g c =
    let test = g.Set.UnitSet.contains c.args.set.now in
    let units = c.args.units.now in
    let m = c.marks-marks.result in
    let room = c.loop-at-test.true in
    let tells = unit-marks test units c.loop-at.at 32 m (omega (arith, room)) (omega arith) c.marks-marks.ensures in
    let found = marked-least (λ k. is_some_and (slice_get units k) test ≡ true) 32 c.args.from c.loop-at.at m c.loop-at.invariant.low c.loop-at.invariant.none tells
    (omega (arith, c.if-marks-ne0.true)) (mask-small test units c.loop-at.at 32 m (omega (arith, room)) (omega arith) c.marks-marks.ensures) in
    is-there test units _ found.1

pub loop-at-preserved : goal.loop-at-preserved
loop-at-preserved g c =
    let test = g.Set.UnitSet.contains c.args.set.now in
    let units = c.args.units.now in
    let m = c.marks-marks.result in
    let room = c.loop-at-test.true in
    let tells = unit-marks test units c.loop-at.at 32 m (omega (arith, room)) (omega arith) c.marks-marks.ensures in
    record {
      low = omega (arith, c.loop-at.invariant.low);
      high = omega (arith, room);
      none = unmarked (λ k. is_some_and (slice_get units k) test ≡ true) 32 c.args.from c.loop-at.at m c.loop-at.invariant.low c.loop-at.invariant.none tells c.if-marks-ne0.false;
    }
