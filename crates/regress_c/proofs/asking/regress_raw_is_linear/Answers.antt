use Rattle.regress_c.proofs.CodeLemmas.{as-given, truth-same}
use Rattle.regress_c.proofs.asking.regress_raw_is_linear.Goals as goal

pub returns-clause-linear : goal.returns-clause-linear
returns-clause-linear c = rw (as-given c.truth_code.result c.truth_code.type_inv) (λ r holds. truth-same c.is_linear.result c.truth_code.result _ c.truth_code.ensures (c.is_linear.ensures.linear r holds))
