use Rattle.regress_c.proofs.CodeLemmas.{as-given}
use Rattle.regress_c.proofs.CopyLemmas.{copied-by}
use Rattle.regress_c.proofs.asking.regress_raw_replace.Goals as goal

pub returns-clause-replaced : goal.returns-clause-replaced
returns-clause-replaced c = rw (as-given c.done_code.result c.done_code.type_inv) (rw (← c.in-Ok.ensures.text, ← c.in-Ok-utf8.ensures.text) (λ r holds t o p stands. copied-by c.replace.result c.done_code.result _ _ _ _ c.done_code.ensures (c.replace.ensures.replaced r holds t o p stands)))
