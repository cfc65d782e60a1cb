use Rattle.regress_c.proofs.CodeLemmas.{as-given, count-ok, few-more}
use Rattle.regress_c.proofs.asking.regress_raw_group_numbers.Goals as goal

pub count_code-requires : goal.count_code-requires
count_code-requires c = few-more c.group_numbers.result c.group_numbers.ensures.few

pub returns-clause-numbers : goal.returns-clause-numbers
returns-clause-numbers c = rw (as-given c.count_code.result c.count_code.type_inv) (rw (← c.in-Ok.ensures.text) (λ r holds. count-ok c.group_numbers.result c.count_code.result _ c.count_code.ensures (c.group_numbers.ensures.numbers r holds)))
