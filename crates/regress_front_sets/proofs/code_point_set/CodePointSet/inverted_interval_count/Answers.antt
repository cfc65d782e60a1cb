use Rattle.std.proofs.Common.{◌-◌, arith}
use Rattle.std.proofs.lemmas.List.{nil_from_length}
use Rattle.std.proofs.lemmas.Bool.Decides.{nat_tests}
use Rattle.regress_front_sets.specs.Intervals.{gaps_from}
use Rattle.regress_front_sets.proofs.SetLemmas.{length-inverse}
use Rattle.regress_front_sets.proofs.code_point_set.CodePointSet.inverted_interval_count.Goals as goal

pub returns-then-len-eq0 : goal.returns-then-len-eq0
unfolding gaps_from
returns-then-len-eq0 c =
    let vec = c.args.self.now.intervals in
    let none = nil_from_length vec.items (omega (arith, vec.ok.0)) in
    rw none

pub returns : goal.returns
returns c =
    let vec = c.args.self.now.intervals in
    let count = length-inverse vec.items (c.len-len.result - 1) c.index.result.now c.index-2.result.now c.args.self.now.canonical (omega (arith, vec.ok.0)) c.index.ensures c.index-2.ensures in
    rw count (grind (arith, nat_tests))
