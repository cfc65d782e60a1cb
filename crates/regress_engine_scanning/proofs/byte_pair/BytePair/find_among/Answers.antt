use Rattle.std.proofs.Common.{◌≡◌, true, map, arith, bit_and}
use Rattle.std.proofs.lemmas.List.{length-map}
use Rattle.std.proofs.lemmas.Nat.{and_le_l}
use Rattle.regress_engine_scanning.specs.BytePairs.{begins_pair}
use Rattle.regress_engine_scanning.specs.NibbleSets.{nibble_set_contains}
use Rattle.regress_engine_scanning.proofs.ByteLemmas.{is-there}
use Rattle.regress_engine_scanning.proofs.MarkLemmas.{marked-least, marked-inside, unmarked}
use Rattle.regress_engine_scanning.proofs.PairMarks.{pair-marks, pair-parts}
use Rattle.regress_engine_scanning.proofs.byte_pair.BytePair.find_among.Goals as goal

pub returns-then-marked-ne0-clause-least : goal.returns-then-marked-ne0-clause-least
returns-then-marked-ne0-clause-least g c =
    let a = c.args in
    let units = map g.U.Unit.number a.units.now in
    let size = length-map a.units.now g.U.Unit.number in
    let one = c.marks.result in
    let other = c.marks-in-loop-from.result in
    let tells = pair-marks a.self.now units c.loop-from.from one other (omega (arith, size)) c.marks.ensures c.marks-in-loop-from.ensures in
    marked-least (λ k. begins_pair a.self.now units k ≡ true) 16 a.offset c.loop-from.from (bit_and one other) c.loop-from.invariant.low c.loop-from.invariant.none tells
    (omega (arith, c.if-marked-ne0.true)) (omega (arith, and_le_l one other))

pub returns-then-marked-ne0-clause-inside : goal.returns-then-marked-ne0-clause-inside
returns-then-marked-ne0-clause-inside g c =
    let a = c.args in
    let units = map g.U.Unit.number a.units.now in
    let size = length-map a.units.now g.U.Unit.number in
    let found = returns-then-marked-ne0-clause-least g c in
    let there = is-there (nibble_set_contains a.self.now.first) units _ (pair-parts a.self.now units _ found.1).0 in
    omega (arith, size, there)

pub loop-from-preserved : goal.loop-from-preserved
loop-from-preserved g c =
    let a = c.args in
    let units = map g.U.Unit.number a.units.now in
    let size = length-map a.units.now g.U.Unit.number in
    let one = c.marks.result in
    let other = c.marks-in-loop-from.result in
    let low = c.loop-from.invariant.low in
    let tells = pair-marks a.self.now units c.loop-from.from one other (omega (arith, size)) c.marks.ensures c.marks-in-loop-from.ensures in
    record {
      low = omega (arith, low);
      high = omega arith;
      none = unmarked (λ k. begins_pair a.self.now units k ≡ true) 16 a.offset c.loop-from.from (bit_and one other) low c.loop-from.invariant.none tells (omega (arith, c.if-marked-ne0.false));
    }

pub overflow_add-result : goal.overflow_add-result
overflow_add-result g c =
    let a = c.args in
    let units = map g.U.Unit.number a.units.now in
    let size = length-map a.units.now g.U.Unit.number in
    let one = c.marks.result in
    let other = c.marks-in-loop-from.result in
    let tells = pair-marks a.self.now units c.loop-from.from one other (omega (arith, size)) c.marks.ensures c.marks-in-loop-from.ensures in
    let few = marked-inside (λ k. begins_pair a.self.now units k ≡ true) 16 a.offset c.loop-from.from (bit_and one other) c.loop-from.invariant.low c.loop-from.invariant.none tells
    (omega (arith, c.if-marked-ne0.true)) (omega (arith, and_le_l one other)) in
    record { fits = omega (arith, few) }
