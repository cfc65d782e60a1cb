use Rattle.std.proofs.Common.{◌≡◌, true, arith}
use Rattle.memchr.specs.Find.{is_byte}
use Rattle.regress_engine_scanning.specs.Units.{has_ends}
use Rattle.regress_engine_scanning.proofs.ByteLemmas.{is-there}
use Rattle.regress_engine_scanning.proofs.LandmarkLemmas.{both-parts}
use Rattle.regress_engine_scanning.proofs.MarkLemmas.{marked-least, unmarked}
use Rattle.regress_engine_scanning.proofs.units.find_ends.Goals as goal

pub returns-then-marks-ne0-clause-least : goal.returns-then-marks-ne0-clause-least
returns-then-marks-ne0-clause-least c =
    let a = c.args in
    let marks = c.ends_marked-marks in
    marked-least (λ k. has_ends a.first a.last a.apart a.units.now k ≡ true) 32 a.from c.loop-at.at marks.result c.loop-at.invariant.low c.loop-at.invariant.none marks.ensures
    (omega (arith, c.if-marks-ne0.true)) marks.type_inv

pub returns-then-marks-ne0-clause-inside : goal.returns-then-marks-ne0-clause-inside
returns-then-marks-ne0-clause-inside c =
    let a = c.args in
    let found = returns-then-marks-ne0-clause-least c in
    is-there (is_byte a.first) a.units.now _ (both-parts _ _ found.1).0

pub loop-at-preserved : goal.loop-at-preserved
loop-at-preserved c =
    let a = c.args in
    let marks = c.ends_marked-marks in
    let low = c.loop-at.invariant.low in
    record {
      low = omega (arith, low);
      high = omega arith;
      none = unmarked (λ k. has_ends a.first a.last a.apart a.units.now k ≡ true) 32 a.from c.loop-at.at marks.result low c.loop-at.invariant.none marks.ensures (omega (arith, c.if-marks-ne0.false));
    }
