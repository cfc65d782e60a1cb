use Rattle.std.proofs.Common.{ℕ, ◌∙◌, ap, not, ◌&&◌, ◌||◌, nat_le, Bool}
use Rattle.std.proofs.lemmas.Bool.{le-leb}
use Rattle.std.proofs.lemmas.Result.{IfOk-weaker}
use Rattle.regress_front_sets.specs.Intervals.{ends_of}
use Rattle.regress_front_sets.specs.Sets.{in_set}
use Rattle.regress_meaning.specs.Table.{last_code_point}
use Rattle.regress_front_class_values.proofs.ClassLemmas.{difference-by_complements}
use Rattle.regress_front_class_values.proofs.value.without.Goals as goal
use Rattle.regress_front_sets.proofs.IntervalLemmas.{in_intervals-bounded}

pub returns : goal.returns
returns c = IfOk-weaker c.try_inverted-2.result _ _ (λ s members (d : ℕ).
    let set = c.args.set.now in
    members d
    ∙ ap (λ (b : Bool). nat_le d last_code_point && not b) (c.in_ok-try_add_set.ensures.members d ∙ ap (λ (b : Bool). b || in_set c.args.other d) (c.in_ok-outside.ensures.members d))
    ∙ difference-by_complements (in_set set d) (in_set c.args.other d) (nat_le d last_code_point) (λ e. le-leb d last_code_point (in_intervals-bounded (ends_of set.intervals.items) d set.canonical e)))
    c.try_inverted-2.ensures.members
