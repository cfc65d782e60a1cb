use Rattle.regress_front_sets.specs.Intervals.{ends_of}
use Rattle.regress_front_sets.proofs.IntervalLemmas.{intervals_from_members}
use Rattle.regress_front_sets.proofs.SetLemmas.{intervals_from_ends}
use Rattle.regress_front_sets.proofs.code_point_set.laws.equal_members_equal_intervals.Goals as goal

pub returns : goal.returns
returns _ = λ a b same.
    intervals_from_ends a.intervals.items b.intervals.items
    (intervals_from_members (ends_of a.intervals.items) (ends_of b.intervals.items) a.canonical b.canonical same)
