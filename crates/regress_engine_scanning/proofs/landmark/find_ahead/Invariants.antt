use Rattle.std.proofs.Common.{◌≡◌, ℕ, ◌+◌, ◌-◌, ◌<◌, ◌≤◌, true, length, map}
use Rattle.regress_engine_scanning.specs.Landmarks.{begins_by}
use Rattle.regress_engine_scanning.specs.declared.landmark.Landmark.TheVariants.{Ahead}
use Rattle.regress_engine_scanning.proofs.landmark.find_ahead.Given as goal

-- no byte so far is so
abbrev pub invariant-loop-at : goal.invariant-loop-at
invariant-loop-at g l = record {
  low : l.offset + l.distance ≤ l.from;
  high : l.from ≤ length l.units;
  none : (k : ℕ) → l.offset ≤ k → k + l.distance < l.from → ¬ (begins_by l.first (Ahead l.distance l.byte) (map g.U.Unit.number l.units) k ≡ true);
}

abbrev pub decreases-loop-at : goal.decreases-loop-at
decreases-loop-at g l = length l.units - l.from
