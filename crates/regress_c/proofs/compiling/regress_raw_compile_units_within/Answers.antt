use Rattle.regress_c.proofs.CodeLemmas.{as-given, refusal-ok, refusal-err}
use Rattle.regress_c.proofs.compiling.regress_raw_compile_units_within.Goals as goal

pub returns-clause-compiled : goal.returns-clause-compiled
returns-clause-compiled c = rw (as-given c.tell.result c.tell.type_inv) (λ ps holds. refusal-ok c.compile.result c.tell.result _ c.tell.ensures.code (c.compile.ensures.compiled ps holds))

pub returns-clause-refused : goal.returns-clause-refused
returns-clause-refused c = rw (as-given c.tell.result c.tell.type_inv) (refusal-err c.compile.result c.tell.result _ c.tell.ensures.code c.compile.ensures.refused)
