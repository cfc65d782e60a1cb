use Rattle.regress_c.proofs.CodeLemmas.{as-given, done-early, done-ok, done-err}
use Rattle.regress_c.proofs.many.regress_raw_find_many_ascii.Goals as goal

pub returns-clause-found : goal.returns-clause-found
returns-clause-found c = rw (as-given c.done_code.result c.done_code.type_inv) (rw (← c.ascii.ensures) (λ r bound holds t o p stands place begins. done-ok c.find_many.result c.done_code.result _ c.done_code.ensures (c.find_many.ensures.found r bound holds t o p stands place begins)))

pub returns-clause-refused : goal.returns-clause-refused
returns-clause-refused c = rw (as-given c.done_code.result c.done_code.type_inv) (rw (← c.ascii.ensures) (done-err c.find_many.result c.done_code.result _ c.done_code.ensures c.find_many.ensures.refused))

pub returns-clause-before : goal.returns-clause-before
returns-clause-before c = rw (as-given c.done_code.result c.done_code.type_inv) (rw (← c.ascii.ensures) (λ r bound holds t o p stands place begins early. c.find_many.ensures.before r bound holds t o p stands place begins (done-early c.find_many.result c.done_code.result c.done_code.ensures early)))
