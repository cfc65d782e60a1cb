use Rattle.std.proofs.Common.{◌∙◌, arith}
use Rattle.std.proofs.lemmas.Result.{IfOk-weaker}
use Rattle.std.proofs.lemmas.Iterator.Adapters.{fact_from_collect, YieldsList-from_vec}
use Rattle.std.specs.BTreeSet.{IsFromIterResult}
use Rattle.regress_front_class_values.specs.ClassValues.{by_order}
use Rattle.regress_front_class_values.proofs.ClassLemmas.{member-among}
use Rattle.regress_front_class_values.proofs.value.string_set.Goals as goal

pub returns : goal.returns
returns c =
    IfOk-weaker c.collect.result (IsFromIterResult by_order c.args.strings.items) _
    (λ set made s. made.0 s ∙ member-among s c.args.strings.items)
    (fact_from_collect (IsFromIterResult by_order) c.collect.result c.collect.ensures.ran (YieldsList-from_vec c.args.strings.items c.into_iter.ensures.rest (omega (arith, c.into_iter.ensures.len, c.args.strings.ok.0))))
