use Rattle.regress_c.proofs.CodeLemmas.{as-given, count-ok, count-err}
use Rattle.regress_c.proofs.finding.regress_raw_find_valid.Goals as goal

pub returns-clause-found : goal.returns-clause-found
returns-clause-found c = rw (as-given c.count_code.result c.count_code.type_inv) (rw (← c.valid.ensures) (λ r bound holds t o p stands place begins. count-ok c.find.result c.count_code.result _ c.count_code.ensures (c.find.ensures.found r bound holds t o p stands place begins)))

pub returns-clause-refused : goal.returns-clause-refused
returns-clause-refused c = rw (as-given c.count_code.result c.count_code.type_inv) (rw (← c.valid.ensures) (count-err c.find.result c.count_code.result _ c.count_code.ensures c.find.ensures.refused))
