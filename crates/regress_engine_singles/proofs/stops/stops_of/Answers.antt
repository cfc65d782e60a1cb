use Rattle.std.proofs.Common.{arith}
use Rattle.regress_engine_singles.proofs.StopLemmas.{one-alone, two-alone, three-alone, inverted-has}
use Rattle.regress_engine_singles.proofs.stops.stops_of.Goals as goal

pub returns-in_ok-first-in-len1-clause-others : goal.returns-in_ok-first-in-len1-clause-others
returns-in_ok-first-in-len1-clause-others c = λ d.
    let least = c.in-len1.len_at_least in
    let most = c.in-len1.len_below in
    inverted-has _ c.intervals.result.now _ d _ c.requires c.intervals.ensures
    (one-alone c.intervals.result.now d c.one-item.result c.in_ok-first-in-len1.first (omega (arith, least, most)) c.one-item.is (c.in_ok-first-in-len1.ensures.only d))

pub returns-in_ok-second-in-len2-clause-others : goal.returns-in_ok-second-in-len2-clause-others
returns-in_ok-second-in-len2-clause-others c = λ d.
    let least = c.in-len2.len_at_least in
    let most = c.in-len2.len_below in
    inverted-has _ c.intervals.result.now _ d _ c.requires c.intervals.ensures
    (two-alone c.intervals.result.now d c.one-item-then-this-lt3.result c.two-item.result c.in_ok-first-in-len2.first c.in_ok-second-in-len2.second (omega (arith, least, most))
    c.one-item-then-this-lt3.is c.two-item.is (c.in_ok-first-in-len2.ensures.only d) (c.in_ok-second-in-len2.ensures.only d))

pub returns-in_ok-third-in-len3-clause-others : goal.returns-in_ok-third-in-len3-clause-others
returns-in_ok-third-in-len3-clause-others c = λ d.
    let least = c.in-len3.len_at_least in
    let most = c.in-len3.len_below in
    inverted-has _ c.intervals.result.now _ d _ c.requires c.intervals.ensures
    (three-alone c.intervals.result.now d c.one-item-then-this-lt4.result c.two-item-then-this-lt4.result c.three-item.result c.in_ok-first-in-len3.first c.in_ok-second-in-len3.second c.in_ok-third-in-len3.third
    (omega (arith, least, most)) c.one-item-then-this-lt4.is c.two-item-then-this-lt4.is c.three-item.is (c.in_ok-first-in-len3.ensures.only d) (c.in_ok-second-in-len3.ensures.only d) (c.in_ok-third-in-len3.ensures.only d))
