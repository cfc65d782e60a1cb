-- What sets of code points hold.
use Rattle.std.specs.Prelude.{ℕ, Bool, List}
use Rattle.regress_meaning.specs.TableParts.{in_intervals}
use Rattle.regress_front_sets.specs.declared.interval.Interval.{Interval}
use Rattle.regress_front_sets.specs.declared.code_point_set.CodePointSet.{CodePointSet}
use Rattle.regress_front_sets.specs.Intervals.{ends_of}

-- the intervals of the set, from low to high
abbrev pub intervals_of : CodePointSet → List Interval
intervals_of set = set.intervals.items

-- both ends of each interval of the set
abbrev pub ends_in : CodePointSet → List (ℕ × ℕ)
ends_in set = ends_of (intervals_of set)

-- c is a member of the set
abbrev pub in_set : CodePointSet → ℕ → Bool
in_set set = in_intervals (ends_in set)
