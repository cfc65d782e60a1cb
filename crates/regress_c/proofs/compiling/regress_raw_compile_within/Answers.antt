use Rattle.std.proofs.Common.{inr}
use Rattle.regress_c.proofs.CodeLemmas.{as-given, refusal-ok, refusal-err, refusal-weaker}
use Rattle.regress_c.proofs.compiling.regress_raw_compile_within.Goals as goal

pub returns-clause-compiled : goal.returns-clause-compiled
returns-clause-compiled c = rw (as-given c.tell-2.result c.tell-2.type_inv) (rw (← c.in-Ok.ensures.text) (λ ps holds. refusal-ok c.compile.result c.tell-2.result _ c.tell-2.ensures.code (c.compile.ensures.compiled ps holds)))

pub returns-clause-refused : goal.returns-clause-refused
returns-clause-refused c = rw (as-given c.tell-2.result c.tell-2.type_inv) (rw (← c.in-Ok.ensures.text) (refusal-err c.compile.result c.tell-2.result _ c.tell-2.ensures.code (refusal-weaker c.compile.result _ _ (λ x h. inr h) c.compile.ensures.refused)))
