use Rattle.regress_c.proofs.CodeLemmas.{as-given, done-ok}
use Rattle.regress_c.proofs.asking.regress_raw_linear_steps.Goals as goal

pub returns-clause-enough : goal.returns-clause-enough
returns-clause-enough c = rw (as-given c.done_code.result c.done_code.type_inv) (λ r holds. done-ok c.linear_steps.result c.done_code.result _ c.done_code.ensures (c.linear_steps.ensures.enough r holds))
