use Rattle.std.proofs.Common.{◌≡◌, ℕ, ◌+◌, true, arith}
use Rattle.std.proofs.lemmas.Nat.{le_or_l, le_or_r}
use Rattle.regress_engine_scanning.specs.Units.{has_ends}
use Rattle.regress_engine_scanning.proofs.MarkLemmas.{unmarked}
use Rattle.regress_engine_scanning.proofs.units.pass_ends.Goals as goal

pub loop-at-preserved : goal.loop-at-preserved
loop-at-preserved c =
    let a = c.args in
    let at = c.loop-at.at in
    let low = c.loop-at.invariant.low in
    let P : ℕ → Type 0 = λ k. has_ends a.first a.last a.apart a.units.now k ≡ true in
    let one = c.ends_marked-near in
    let other = c.ends_marked-far in
    let clear = c.if-near-far-ne0.false in
    let near = unmarked P 32 a.from at one.result low c.loop-at.invariant.none one.ensures (omega (arith, clear, le_or_l one.result other.result)) in
    let far = unmarked P 32 a.from (at + 32) other.result (omega (arith, low)) near other.ensures (omega (arith, clear, le_or_r one.result other.result)) in
    record {
      low = omega (arith, low);
      high = omega arith;
      none = λ k from less. far k from (omega (arith, less));
    }
