use Rattle.std.proofs.Common.{◌≡◌, ℕ, ◌-◌, ◌<◌, ◌≤◌, true, length, map}
use Rattle.regress_engine_scanning.specs.Landmarks.{begins_by}
use Rattle.regress_engine_scanning.specs.declared.landmark.Landmark.TheVariants.{BehindRun}
use Rattle.regress_engine_scanning.proofs.landmark.find_run.Given as goal

-- no byte so far is so
abbrev pub invariant-loop-at : goal.invariant-loop-at
invariant-loop-at g l = record {
  low : l.offset ≤ l.from;
  high : l.from ≤ length l.units;
  none : (k : ℕ) → l.offset ≤ k → k < l.from → ¬ (begins_by l.first (BehindRun l.run l.byte) (map g.U.Unit.number l.units) k ≡ true);
}

abbrev pub decreases-loop-at : goal.decreases-loop-at
decreases-loop-at g l = length l.units - l.from
