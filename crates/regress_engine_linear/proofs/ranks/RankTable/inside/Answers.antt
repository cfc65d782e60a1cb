use Rattle.std.proofs.Common.{◌<◌, ◌≤◌, true, false, length, get_or, arith}
use Rattle.std.proofs.lemmas.Bool.{lt-ltb}
use Rattle.std.proofs.lemmas.Bool.Decides.{nat_tests}
use Rattle.regress_engine_linear.proofs.InsideLemmas.{below-end, below-few, below-on}
use Rattle.regress_engine_linear.proofs.ranks.RankTable.inside.Goals as goal
use Rattle.regress_engine_linear.proofs.ranks.RankTable.inside.Goals.{then-index-count, else-index-count}

pub loop-at-init : goal.loop-at-init
loop-at-init c = let few = below-few (length c.args.self.now.ranks.items) c.args.self.now.outside.items in record { all = omega arith; few = omega (arith, few) }

pub loop-at-preserved : goal.loop-at-preserved
loop-at-preserved c =
    let count = length c.args.self.now.ranks.items in
    let xs = c.args.self.now.outside.items in
    let within : c.loop-at.at < length xs = omega (arith, c.loop-at-test.true) in
    let all = c.loop-at.invariant.all in
    let few = c.loop-at.invariant.few in
    let d = c.index.result.now in
    let value = c.index.ensures in
    let size = c.len-count.ensures in
    elim c.if-index-count.branch [
      | then-index-count w ↦
          let test = w.if-index-count.true in
          let next = below-on count xs c.loop-at.at d true within (lt-ltb (get_or xs c.loop-at.at d) count (omega (arith, test, value, size))) in
          let is = w.inside-is in
          record { all = omega (arith, all, next, is); few = omega (arith, few, next, is) }
      | else-index-count w ↦
          let test = w.if-index-count.false in
          let other : count ≤ get_or xs c.loop-at.at d = omega (arith, test, value, size) in
          let next = below-on count xs c.loop-at.at d false within (grind (arith, nat_tests)) in
          let is = w.inside-is in
          record { all = omega (arith, all, next, is); few = omega (arith, few, next, is) }
    ]

pub returns : goal.returns
returns c =
    let past = c.loop-at-test.false in
    let end = below-end (length c.args.self.now.ranks.items) c.args.self.now.outside.items c.loop-at.at (omega (arith, past)) in
    let all = c.loop-at.invariant.all in
    omega (arith, all, end)
