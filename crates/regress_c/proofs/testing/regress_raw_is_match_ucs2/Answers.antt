use Rattle.regress_c.proofs.CodeLemmas.{as-given, truth-ok}
use Rattle.regress_c.proofs.testing.regress_raw_is_match_ucs2.Goals as goal

pub returns-clause-found : goal.returns-clause-found
returns-clause-found c = rw (as-given c.truth_code.result c.truth_code.type_inv) (λ r bound holds t o p stands place begins. truth-ok c.is_match.result c.truth_code.result _ c.truth_code.ensures (c.is_match.ensures.found r bound holds t o p stands place begins))
