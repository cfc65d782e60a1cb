use Rattle.regress_c.proofs.CodeLemmas.{as-given, count-ok, count-err, IfErr-weaker}
use Rattle.regress_c.proofs.CheckedLemmas.{checked-search}
use Rattle.regress_c.proofs.finding.regress_raw_find.Goals as goal

pub returns-clause-found : goal.returns-clause-found
returns-clause-found c = rw (as-given c.count_code.result c.count_code.type_inv) (rw (← c.in-Ok.ensures.text) (λ r bound holds t o p stands place begins. count-ok c.find.result c.count_code.result _ c.count_code.ensures (c.find.ensures.found r bound holds t o p stands place begins)))

pub returns-clause-refused : goal.returns-clause-refused
returns-clause-refused c = rw (as-given c.count_code.result c.count_code.type_inv) (rw (← c.in-Ok.ensures.text) (count-err c.find.result c.count_code.result _ c.count_code.ensures (IfErr-weaker c.find.result _ _ (checked-search _ _ _ _) c.find.ensures.refused)))
