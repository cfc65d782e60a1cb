use Rattle.std.proofs.Common.{arith}
use Rattle.std.proofs.lemmas.Bool.Decides.{nat_tests}
use Rattle.regress_front_sets.proofs.first_bytes.add_whole.Goals as goal

pub returns-then-row-lt8 : goal.returns-then-row-lt8
returns-then-row-lt8 c b =
    let there = c.add_row.ensures b in
    let low = c.if-row-lt8.true in
    grind (arith, nat_tests)

pub returns-then-row-gt12 : goal.returns-then-row-gt12
returns-then-row-gt12 c b =
    let there = c.add_row-then-row-gt12.ensures b in
    let high = c.if-row-gt12.true in
    grind (arith, nat_tests)

pub returns-else-row-gt12 : goal.returns-else-row-gt12
returns-else-row-gt12 c b =
    let low = c.if-row-lt8.false in
    let high = c.if-row-gt12.false in
    let other = c.requires in
    grind (arith, nat_tests)
