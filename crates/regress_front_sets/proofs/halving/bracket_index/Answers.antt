use Rattle.std.proofs.Common.{◌∙◌, ◌<◌, ◌^◌, length, refl, sym, arith}
use Rattle.regress_front_sets.proofs.SetLemmas.{first_interval}
use Rattle.regress_front_sets.proofs.HalvingLemmas.{IsSearched-start, IsSearched-up, IsSearched-down, Searched-found, one_more, position-none}
use Rattle.regress_front_sets.proofs.halving.bracket_index.Goals as goal

pub loop-low-init : goal.loop-low-init
loop-low-init g c = rw c.len-high.ensures (IsSearched-start _ _ _)

pub compare-requires-clause-room : goal.compare-requires-clause-room
compare-requires-clause-room g c =
    let ascend = g.met.P.Probes.ascend c.loop-low.probes in
    let fits : length (g.P.Probes.intervals c.args.probes.now) < 2 ^ 64 = rw (← c.len-high.ensures) c.len-high.type_inv in
    let one = one_more _ _ _ _ _ _ _ _ _ ascend c.loop-low.invariant c.loop-low-test.true refl refl 64 fits in
    omega arith

pub loop-low-preserved-in-Less : goal.loop-low-preserved-in-Less
loop-low-preserved-in-Less g c =
    let ascend = g.met.P.Probes.ascend c.loop-low.probes in
    IsSearched-up _ _ _ _ _ _ _ _ _ ascend c.loop-low.invariant c.loop-low-test.true c.compare.ensures.kept c.compare.ensures.counted
    (sym (c.compare.ensures.answer first_interval) ∙ c.in-Less.is)

pub loop-low-preserved : goal.loop-low-preserved
loop-low-preserved g c =
    let ascend = g.met.P.Probes.ascend c.loop-low.probes in
    IsSearched-down _ _ _ _ _ _ _ _ _ ascend c.loop-low.invariant c.loop-low-test.true c.compare.ensures.kept c.compare.ensures.counted
    (sym (c.compare.ensures.answer first_interval) ∙ c.in-Greater.is)

pub returns-in-Equal-clause-index : goal.returns-in-Equal-clause-index
returns-in-Equal-clause-index g c =
    let ascend = g.met.P.Probes.ascend c.loop-low.probes in
    Searched-found _ _ _ _ _ _ _ _ _ ascend c.loop-low.invariant c.loop-low-test.true c.compare.ensures.kept c.compare.ensures.counted
    (sym (c.compare.ensures.answer first_interval) ∙ c.in-Equal.is)

pub returns-in-Equal-clause-counted : goal.returns-in-Equal-clause-counted
returns-in-Equal-clause-counted g c =
    let ascend = g.met.P.Probes.ascend c.loop-low.probes in
    one_more _ _ _ _ _ _ _ _ _ ascend c.loop-low.invariant c.loop-low-test.true c.compare.ensures.kept c.compare.ensures.counted

pub returns-clause-index : goal.returns-clause-index
returns-clause-index g c =
    let ascend = g.met.P.Probes.ascend c.args.probes.now in
    sym (position-none _ _ ascend _ _ c.loop-low.invariant.narrowed c.loop-low-test.false)

pub returns-clause-counted : goal.returns-clause-counted
returns-clause-counted g c = λ k w. let left = c.loop-low.invariant.counted.left k w in omega (arith, left.1)
