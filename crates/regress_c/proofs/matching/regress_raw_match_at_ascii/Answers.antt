use Rattle.regress_c.proofs.CodeLemmas.{as-given, count-ok, count-err}
use Rattle.regress_c.proofs.matching.regress_raw_match_at_ascii.Goals as goal

pub returns-clause-found : goal.returns-clause-found
returns-clause-found c = rw (as-given c.count_code.result c.count_code.type_inv) (rw (← c.ascii.ensures) (λ r bound holds t o p stands place begins. count-ok c.match_at.result c.count_code.result _ c.count_code.ensures (c.match_at.ensures.found r bound holds t o p stands place begins)))

pub returns-clause-refused : goal.returns-clause-refused
returns-clause-refused c = rw (as-given c.count_code.result c.count_code.type_inv) (rw (← c.ascii.ensures) (count-err c.match_at.result c.count_code.result _ c.count_code.ensures c.match_at.ensures.refused))
