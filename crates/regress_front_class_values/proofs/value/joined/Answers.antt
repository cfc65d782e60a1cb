use Rattle.std.proofs.Common.{ap, ◌∙◌}
use Rattle.regress_front_class_values.specs.ClassValues.{united, all_united}
use Rattle.regress_front_class_values.proofs.ClassLemmas.{only-none}
use Rattle.regress_front_class_values.proofs.ClassValueLemmas.{united-none, all_united-joined}
use Rattle.regress_front_class_values.proofs.value.joined.Goals as goal

pub loop-last-init : goal.loop-last-init
loop-last-init c =
    let all = all_united c.args.values.items in
    ap (united all) (c.of_points-value.ensures ∙ only-none c.new.result c.new.ensures) ∙ united-none all

pub loop-last-preserved : goal.loop-last-preserved
loop-last-preserved c =
    all_united-joined c.loop-last.values.items c.pop.new.self.items c.in-Some.last c.loop-last.value c.add.new.self c.in-Some.ensures.items c.in_ok-add.ensures ∙ c.loop-last.invariant
