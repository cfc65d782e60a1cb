use Rattle.std.specs.Prelude.{map}
use Rattle.std.proofs.Common.{◌≡◌, ℕ, ◌<◌, get_or}
use Rattle.regress_engine_search.specs.StateViews.{loop_of}
use Rattle.regress_engine_memory.specs.Keys.{class_of}
use Rattle.regress_engine_memory.specs.Remembered.{keyed_of}
use Rattle.regress_engine_memory.specs.TableViews.{table_of}
use Rattle.regress_engine_memory.proofs.flow.FlowTable.have_classes.Given as goal

-- the loops so far have their classes
abbrev pub invariant-loop-k : goal.invariant-loop-k
invariant-loop-k l = record {
  each : (j : ℕ) → j < l.k → class_of (keyed_of (table_of l.self)) (get_or l.live j 0) (get_or (map loop_of l.loops) (get_or l.live j 0) (0, 0)).0 ≡ get_or l.classes j 0;
}
