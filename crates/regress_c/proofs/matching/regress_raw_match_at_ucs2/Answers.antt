use Rattle.regress_c.proofs.CodeLemmas.{as-given, count-ok}
use Rattle.regress_c.proofs.matching.regress_raw_match_at_ucs2.Goals as goal

pub returns-clause-found : goal.returns-clause-found
returns-clause-found c = rw (as-given c.count_code.result c.count_code.type_inv) (λ r bound holds t o p stands place begins. count-ok c.match_at.result c.count_code.result _ c.count_code.ensures (c.match_at.ensures.found r bound holds t o p stands place begins))
