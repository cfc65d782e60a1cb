use Rattle.std.proofs.Common.{arith}
use Rattle.esgrep_patterns.proofs.HitLemmas.{first-sooner, second-sooner}
use Rattle.esgrep_patterns.proofs.patterns.sooner.Goals as goal

pub returns-then-start-clause-hits : goal.returns-then-start-clause-hits
returns-then-start-clause-hits c = λ text a b first second.
    let p = c.in-Some-Some in
    second-sooner text p.first p.second a b (omega (arith, c.if-start.true)) (rw p.is-0 at first) (rw p.is-1 at second)

pub returns-else-start-clause-hits : goal.returns-else-start-clause-hits
returns-else-start-clause-hits c = λ text a b first second.
    let p = c.in-Some-Some in
    first-sooner text p.first p.second a b (omega (arith, c.if-start.false)) (rw p.is-0 at first) (rw p.is-1 at second)
