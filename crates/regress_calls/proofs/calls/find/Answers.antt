use Rattle.std.proofs.Common.{rules}
use Rattle.regress_calls.proofs.calls.find.Goals as goal

pub returns-clause-found : goal.returns-clause-found
returns-clause-found c = λ r bound holds t o p stands place begins. c.find_held-found.ensures.found r bound (search rules) t o p stands place begins
