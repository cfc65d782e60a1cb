use Rattle.std.proofs.Common.{◌≡◌, drop}
use Rattle.regress_meaning.specs.TableParts.{in_intervals}
use Rattle.regress_front_sets.specs.Intervals.{ends_of}
use Rattle.regress_engine_singles.proofs.class.lies_in_any.Given as goal

-- those that are left tell it
abbrev pub invariant-loop-interval : goal.invariant-loop-interval
invariant-loop-interval l = in_intervals (drop l.interval-index (ends_of l.intervals)) l.number ≡ in_intervals (ends_of l.intervals) l.number
