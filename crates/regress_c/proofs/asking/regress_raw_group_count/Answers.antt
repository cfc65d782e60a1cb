use Rattle.regress_c.proofs.CodeLemmas.{as-given, count-ok, few-more}
use Rattle.regress_c.proofs.asking.regress_raw_group_count.Goals as goal

pub count_code-requires : goal.count_code-requires
count_code-requires c = few-more c.group_count.result c.group_count.ensures.few

pub returns-clause-count : goal.returns-clause-count
returns-clause-count c = rw (as-given c.count_code.result c.count_code.type_inv) (λ r holds. count-ok c.group_count.result c.count_code.result _ c.count_code.ensures (c.group_count.ensures.count r holds))
