use Rattle.std.proofs.Common.{◌≡◌, true, map, arith, w64, bit_and}
use Rattle.std.specs.Int.{bit_not}
use Rattle.std.proofs.lemmas.List.{length-map}
use Rattle.std.proofs.lemmas.Nat.{and_le_l}
use Rattle.regress_engine_scanning.specs.WordStarts.{begins_word}
use Rattle.regress_engine_scanning.specs.NibbleSets.{nibble_set_contains}
use Rattle.regress_engine_scanning.proofs.ByteLemmas.{is-there}
use Rattle.regress_engine_scanning.proofs.MarkLemmas.{marked-least, marked-inside, unmarked}
use Rattle.regress_engine_scanning.proofs.WordMarks.{word-marks, word-parts}
use Rattle.regress_engine_scanning.proofs.word_start.WordStart.find_inside.Goals as goal

pub returns-then-marked-ne0-clause-least : goal.returns-then-marked-ne0-clause-least
returns-then-marked-ne0-clause-least g c =
    let a = c.args in
    let units = map g.U.Unit.number a.units.now in
    let size = length-map a.units.now g.U.Unit.number in
    let one = c.marks.result in
    let front = c.marks-in-loop-from.result in
    let low = c.loop-from.invariant.low in
    let some = c.requires.inside.0 in
    let tells = word-marks a.self.now units c.loop-from.from one front (omega (arith, some, low)) (omega (arith, size)) (omega arith) c.marks.ensures c.marks-in-loop-from.ensures in
    marked-least (λ k. begins_word a.self.now units k ≡ true) 16 a.offset c.loop-from.from (bit_and one (bit_not w64 front)) low c.loop-from.invariant.none tells
    (omega (arith, c.if-marked-ne0.true)) (omega (arith, and_le_l one (bit_not w64 front)))

pub returns-then-marked-ne0-clause-inside : goal.returns-then-marked-ne0-clause-inside
returns-then-marked-ne0-clause-inside g c =
    let a = c.args in
    let units = map g.U.Unit.number a.units.now in
    let size = length-map a.units.now g.U.Unit.number in
    let found = returns-then-marked-ne0-clause-least g c in
    let there = is-there (nibble_set_contains a.self.now.first) units _ (word-parts a.self.now units _ found.1).0 in
    omega (arith, size, there)

pub loop-from-preserved : goal.loop-from-preserved
loop-from-preserved g c =
    let a = c.args in
    let units = map g.U.Unit.number a.units.now in
    let size = length-map a.units.now g.U.Unit.number in
    let one = c.marks.result in
    let front = c.marks-in-loop-from.result in
    let low = c.loop-from.invariant.low in
    let some = c.requires.inside.0 in
    let tells = word-marks a.self.now units c.loop-from.from one front (omega (arith, some, low)) (omega (arith, size)) (omega arith) c.marks.ensures c.marks-in-loop-from.ensures in
    record {
      low = omega (arith, low);
      high = omega arith;
      none = unmarked (λ k. begins_word a.self.now units k ≡ true) 16 a.offset c.loop-from.from (bit_and one (bit_not w64 front)) low c.loop-from.invariant.none tells (omega (arith, c.if-marked-ne0.false));
    }

pub overflow_add-result : goal.overflow_add-result
overflow_add-result g c =
    let a = c.args in
    let units = map g.U.Unit.number a.units.now in
    let size = length-map a.units.now g.U.Unit.number in
    let one = c.marks.result in
    let front = c.marks-in-loop-from.result in
    let low = c.loop-from.invariant.low in
    let some = c.requires.inside.0 in
    let tells = word-marks a.self.now units c.loop-from.from one front (omega (arith, some, low)) (omega (arith, size)) (omega arith) c.marks.ensures c.marks-in-loop-from.ensures in
    let few = marked-inside (λ k. begins_word a.self.now units k ≡ true) 16 a.offset c.loop-from.from (bit_and one (bit_not w64 front)) low c.loop-from.invariant.none tells
    (omega (arith, c.if-marked-ne0.true)) (omega (arith, and_le_l one (bit_not w64 front))) in
    record { fits = omega (arith, few) }
