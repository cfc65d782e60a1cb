use Rattle.std.proofs.Common.{max, arith}
use Rattle.std.proofs.lemmas.Bool.{leb-true, le-leb}
use Rattle.regress_front_sets.proofs.IntervalLemmas.{between-true, between-within}
use Rattle.regress_front_sets.proofs.interval.Interval.overlaps.Goals as goal

pub returns-then-self-other : goal.returns-then-self-other
returns-then-self-other c =
    let a = c.args.self in
    let b = c.args.other in
    let c_max = max a.first b.first in (
      λ e.
          let le = leb-true b.first a.last e in
          (c_max, between-within a.first a.last c_max (omega arith) (omega (arith, a.ordered)), between-within b.first b.last c_max (omega arith) (omega (arith, b.ordered))),
      λ w.
          let in_a = between-true a.first a.last w.0 w.1 in
          let in_b = between-true b.first b.last w.0 w.2 in
          le-leb b.first a.last (omega arith),
    )
