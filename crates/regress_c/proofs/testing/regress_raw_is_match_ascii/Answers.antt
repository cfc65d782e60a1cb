use Rattle.regress_c.proofs.CodeLemmas.{as-given, truth-ok, truth-err}
use Rattle.regress_c.proofs.testing.regress_raw_is_match_ascii.Goals as goal

pub returns-clause-found : goal.returns-clause-found
returns-clause-found c = rw (as-given c.truth_code.result c.truth_code.type_inv) (rw (← c.ascii.ensures) (λ r bound holds t o p stands place begins. truth-ok c.is_match.result c.truth_code.result _ c.truth_code.ensures (c.is_match.ensures.found r bound holds t o p stands place begins)))

pub returns-clause-refused : goal.returns-clause-refused
returns-clause-refused c = rw (as-given c.truth_code.result c.truth_code.type_inv) (rw (← c.ascii.ensures) (truth-err c.is_match.result c.truth_code.result _ c.truth_code.ensures c.is_match.ensures.refused))
