-- Intervals whose probes are counted.
use Rattle.std.specs.Prelude.{ℕ, List}
use Rattle.regress_front_sets.specs.declared.interval.Interval.{Interval}
use Rattle.regress_front_sets.specs.declared.halving.CountedIntervals.{CountedIntervals}

-- the intervals
abbrev pub counted_intervals : CountedIntervals → List Interval
counted_intervals c = c.intervals.now

-- how often one of them was compared
abbrev pub counted_probes : CountedIntervals → ℕ
counted_probes c = c.probes
