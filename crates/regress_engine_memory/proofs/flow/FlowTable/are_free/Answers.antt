use Rattle.std.specs.Prelude.{map}
use Rattle.std.proofs.Common.{◌≡◌, ℕ, ◌+◌, ◌<◌, true, false, List, get_or, subst, arith}
use Rattle.regress_meaning.specs.Text.{holds}
use Rattle.regress_engine_input.specs.Views.{direction_of}
use Rattle.regress_engine_search.specs.StateViews.{loop_of}
use Rattle.regress_engine_memory.specs.Deciding.{Table, flow_of}
use Rattle.regress_engine_memory.specs.Remembered.{keyed_of}
use Rattle.regress_engine_memory.specs.TableViews.{table_of}
use Rattle.regress_engine_runs.specs.Runs.{room}
use Rattle.regress_engine_memory.specs.Under.{HasMoved}
use Rattle.regress_engine_memory.proofs.ClassLemmas.{each-held}
use Rattle.regress_engine_memory.proofs.flow.FlowTable.are_free.Goals as goal

pub returns-clause-moved : goal.returns-clause-moved
returns-clause-moved c e id held none =
    let t : Table = table_of c.args.self.now in
    let Moved : ℕ → Type 0 = λ i. holds c.args.fresh.now i ≡ false → HasMoved (flow_of t) c.args.last i (direction_of c.args.spot.now.forward) c.args.spot.now.offset (get_or (map loop_of c.args.loops.now) i (0, 0)) in
    let full = c.loop-k-test.false in
    subst (λ (ids : List ℕ). holds ids id ≡ true → Moved id) c.live-live.ensures
    (each-held Moved c.live-live.result.now (λ k less. c.loop-k.invariant.moved k (omega (arith, less, full))) id) held none

pub returns-clause-room : goal.returns-clause-room
returns-clause-room c e id held =
    let t : Table = table_of c.args.self.now in
    let Roomy : ℕ → Type 0 = λ i. (keyed_of t).counted i ≡ false
    → (get_or (map loop_of c.args.loops.now) i (0, 0)).0 + 1 + room c.args.last (direction_of c.args.spot.now.forward) c.args.spot.now.offset < (flow_of t).most i in
    let full = c.loop-k-test.false in
    subst (λ (ids : List ℕ). holds ids id ≡ true → Roomy id) c.live-live.ensures
    (each-held Roomy c.live-live.result.now (λ k less. c.loop-k.invariant.room k (omega (arith, less, full))) id) held
