use Rattle.std.proofs.Common.{◌∙◌}
use Rattle.regress_front_class_values.proofs.ClassValueLemmas.{all_united-joined}
use Rattle.regress_front_class_values.proofs.value.push_joined.Goals as goal

pub loop-last-preserved : goal.loop-last-preserved
loop-last-preserved c =
    all_united-joined c.loop-last.values.items c.pop.new.self.items c.in-Some.last c.loop-last.value c.add.new.self c.in-Some.ensures.items c.in_ok-add.ensures ∙ c.loop-last.invariant
