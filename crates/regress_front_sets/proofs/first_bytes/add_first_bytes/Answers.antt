use Rattle.std.proofs.Common.{arith}
use Rattle.std.proofs.lemmas.Bool.Decides.{nat_tests}
use Rattle.regress_front_sets.proofs.first_bytes.add_first_bytes.Goals as goal

pub returns : goal.returns
returns c b =
    let there = c.loop-row.invariant b in
    let past = c.loop-row-test.false in
    grind (arith, nat_tests)
