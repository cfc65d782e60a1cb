use Rattle.std.proofs.Common.{ap, ◌∙◌}
use Rattle.std.specs.Option.{is_some}
use Rattle.regress_meaning.specs.TableParts.{in_intervals}
use Rattle.regress_front_sets.specs.Intervals.{ends_of}
use Rattle.regress_front_sets.proofs.HalvingLemmas.{Ascend-rise, in_intervals-position}
use Rattle.regress_front_sets.proofs.code_point_set.CodePointSet.contains.Goals as goal

pub new-intervals-requires : goal.new-intervals-requires
new-intervals-requires c = Ascend-rise _ (rw (← c.deref.ensures.value) at c.args.self.now.canonical)

pub returns : goal.returns
returns c =
    let items = c.new-intervals.ensures.intervals ∙ c.deref.ensures.value in
    c.is_some.ensures ∙ ap is_some c.bracket_index.ensures.index ∙ in_intervals-position _ c.args.cp ∙ ap (λ l. in_intervals (ends_of l) c.args.cp) items
