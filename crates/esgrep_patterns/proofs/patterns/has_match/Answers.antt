use Rattle.std.proofs.Common.{Err, ap}
use Rattle.esgrep_patterns.proofs.BoundLemmas.{all-too_long}
use Rattle.esgrep_patterns.proofs.patterns.has_match.Goals as goal

pub returns-in-Err-clause-given : goal.returns-in-Err-clause-given
returns-in-Err-clause-given c = λ err.
    let bound = c.within.ensures in
    let long = all-too_long c.args.regex.now c.within.result c.in-Some.steps bound.compiled bound.steps c.args.text.now 0 (c.in-Err.ensures.stopped (ap Err (c.given_up.ensures (cc err)))) in
    rw c.in-Some.is long
