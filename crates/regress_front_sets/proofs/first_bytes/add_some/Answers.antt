use Rattle.std.proofs.Common.{arith}
use Rattle.std.proofs.lemmas.Bool.Decides.{nat_tests}
use Rattle.regress_front_sets.proofs.first_bytes.add_some.Goals as goal

pub returns : goal.returns
returns c b =
    let there = c.loop-byte.invariant b in
    let auto = c.loop-byte.auto.byte-end c.requires in
    let past = c.loop-byte-test.false in
    grind (arith, nat_tests)
