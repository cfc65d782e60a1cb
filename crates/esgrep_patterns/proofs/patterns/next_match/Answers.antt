use Rattle.std.proofs.Common.{Err, ap}
use Rattle.esgrep_patterns.proofs.patterns.next_match.Goals as goal

pub returns-in_default-clause-given : goal.returns-in_default-clause-given
returns-in_default-clause-given c = λ err. absurd (let refused = rw err at c.first_from.ensures.refused in cc refused)

pub returns-in-Err-clause-given : goal.returns-in-Err-clause-given
returns-in-Err-clause-given c = λ err. rw c.in-Some.is (c.in-Err.ensures.stopped (ap Err (c.given_up.ensures (cc err))))
