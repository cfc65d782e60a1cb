use Rattle.std.proofs.Common.{arith}
use Rattle.std.proofs.lemmas.Bool.Decides.{nat_tests}
use Rattle.regress_front_sets.proofs.first_bytes.add_of_row.Goals as goal

pub returns-then-row-ne12 : goal.returns-then-row-ne12
returns-then-row-ne12 c b =
    let there = c.add_whole.ensures b in
    let first = c.if-first-low.true in
    let last = c.if-high-last.true in
    let within = c.requires in
    grind (arith, nat_tests)

pub returns : goal.returns
returns c b =
    let there = c.add_some.ensures b in
    let low = c.max.ensures in
    let high = c.min.ensures in
    let within = c.requires in
    grind (arith, nat_tests)
