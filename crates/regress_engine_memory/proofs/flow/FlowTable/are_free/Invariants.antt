use Rattle.std.specs.Prelude.{map}
use Rattle.std.proofs.Common.{◌≡◌, ℕ, ◌+◌, ◌<◌, false, get_or}
use Rattle.regress_meaning.specs.Text.{holds}
use Rattle.regress_engine_input.specs.Views.{direction_of}
use Rattle.regress_engine_search.specs.StateViews.{loop_of}
use Rattle.regress_engine_memory.specs.Deciding.{flow_of}
use Rattle.regress_engine_memory.specs.Remembered.{keyed_of}
use Rattle.regress_engine_memory.specs.TableViews.{table_of}
use Rattle.regress_engine_runs.specs.Runs.{room}
use Rattle.regress_engine_memory.specs.Under.{HasMoved}
use Rattle.regress_engine_memory.proofs.flow.FlowTable.are_free.Given as goal

-- the loops so far are free
abbrev pub invariant-loop-k : goal.invariant-loop-k
invariant-loop-k l = record {
  moved : (j : ℕ) → j < l.k → holds l.fresh (get_or l.live j 0) ≡ false → HasMoved (flow_of (table_of l.self)) l.last (get_or l.live j 0) (direction_of l.spot.forward) l.spot.offset (get_or (map loop_of l.loops) (get_or l.live j 0) (0, 0));
  room : (j : ℕ) → j < l.k → (keyed_of (table_of l.self)).counted (get_or l.live j 0) ≡ false
      → (get_or (map loop_of l.loops) (get_or l.live j 0) (0, 0)).0 + 1 + room l.last (direction_of l.spot.forward) l.spot.offset < (flow_of (table_of l.self)).most (get_or l.live j 0);
}
