use Rattle.regress_c.proofs.CodeLemmas.{as-given, done-early, done-ok}
use Rattle.regress_c.proofs.many.regress_raw_find_many_ucs2.Goals as goal

pub returns-clause-found : goal.returns-clause-found
returns-clause-found c = rw (as-given c.done_code.result c.done_code.type_inv) (λ r bound holds t o p stands place begins. done-ok c.find_many.result c.done_code.result _ c.done_code.ensures (c.find_many.ensures.found r bound holds t o p stands place begins))

pub returns-clause-before : goal.returns-clause-before
returns-clause-before c = rw (as-given c.done_code.result c.done_code.type_inv) (λ r bound holds t o p stands place begins early. c.find_many.ensures.before r bound holds t o p stands place begins (done-early c.find_many.result c.done_code.result c.done_code.ensures early))
