use Rattle.regress_front_sets.specs.Intervals.{ends_of}
use Rattle.regress_front_sets.proofs.IntervalLemmas.{inverse-inverse}
use Rattle.regress_front_sets.proofs.code_point_set.laws.inverted_twice_is_the_same.Goals as goal

pub returns : goal.returns
returns _ = λ set. inverse-inverse (ends_of set.intervals.items) set.canonical
