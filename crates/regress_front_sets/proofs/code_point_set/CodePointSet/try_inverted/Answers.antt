use Rattle.std.proofs.Common.{ap, ◌∙◌}
use Rattle.regress_front_sets.specs.Intervals.{ends_of}
use Rattle.regress_front_sets.proofs.IntervalLemmas.{IntervalsRise-inverse, in_intervals-inverse}
use Rattle.regress_front_sets.proofs.code_point_set.CodePointSet.try_inverted.Goals as goal

pub from_sorted_disjoint_intervals-requires : goal.from_sorted_disjoint_intervals-requires
from_sorted_disjoint_intervals-requires c =
    let set = c.args.self.now in
    rw c.in_ok-gaps.ensures (IntervalsRise-inverse (ends_of set.intervals.items) set.canonical)

pub returns-clause-members : goal.returns-clause-members
returns-clause-members c =
    let set = c.args.self.now in
    let gaps = ap ends_of c.from_sorted_disjoint_intervals.ensures ∙ c.in_ok-gaps.ensures in
    λ x. rw gaps (in_intervals-inverse (ends_of set.intervals.items) x set.canonical)
