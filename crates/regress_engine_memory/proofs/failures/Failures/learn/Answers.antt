use Rattle.std.specs.Prelude.{map, slice_get}
use Rattle.std.proofs.Common.{◌≡◌, ℕ, ◌+◌, ◌<◌, true, false, List, Some, get_or, ap, subst, sym, ◌∙◌, arith}
use Rattle.std.proofs.lemmas.Option.{slice_get-get_or}
use Rattle.regress_meaning.specs.Text.{holds}
use Rattle.regress_engine_input.specs.Views.{direction_of}
use Rattle.regress_engine_runs.specs.Runs.{room}
use Rattle.regress_engine_search.specs.StateViews.{loop_of}
use Rattle.regress_engine_memory.specs.Deciding.{flow_of, live_at}
use Rattle.regress_engine_memory.specs.Remembered.{keyed_of}
use Rattle.regress_engine_memory.specs.TableViews.{table_of}
use Rattle.regress_engine_memory.specs.Under.{HasMoved}
use Rattle.regress_engine_memory.specs.declared.failures.Plane.{Plane}
use Rattle.regress_engine_memory.specs.declared.flow.FlowTable.{FlowTable}
use Rattle.regress_engine_memory.proofs.PlaneLemmas.{plane-fails, found-fails}
use Rattle.regress_engine_memory.proofs.failures.Failures.learn.Goals as goal

pub returns-then-are_free-clause-known : goal.returns-then-are_free-clause-known
returns-then-are_free-clause-known c program input known fails =
    let s = c.args.spot.now in
    let loops : List (ℕ × ℕ) = map loop_of c.args.loops.now in
    let old : FlowTable = c.args.self.now.table in
    let new : FlowTable = c.plane_of.new.self.table in
    let planes : List Plane = c.plane_of.new.self.planes.items in
    let (p, there, is) = c.in-Some.ensures.plane in
    let q : Plane = c.index.result.now in
    let found : Some q ≡ Some p =
    sym (slice_get-get_or planes c.in-Some.k q (omega (arith, c.if-k-len.false)) ∙ ap (λ x. Some x) (sym c.index.ensures)) ∙ there in
    let same : q ≡ p = cc in
    let ids : c.deref.result.now ≡ p.fresh.items = c.deref.ensures.value ∙ ap (λ (x : Plane). x.fresh.items) same in
    let moved : (id : ℕ) → holds (live_at (table_of old) s.at) id ≡ true → holds p.fresh.items id ≡ false
    → HasMoved (flow_of (table_of old)) c.args.last id (direction_of s.forward) s.offset (get_or loops id (0, 0)) =
    subst (λ (x : FlowTable). (id : ℕ) → holds (live_at (table_of x) s.at) id ≡ true → holds p.fresh.items id ≡ false
    → HasMoved (flow_of (table_of x)) c.args.last id (direction_of s.forward) s.offset (get_or loops id (0, 0))) c.plane_of.ensures.table
    (subst (λ (fresh : List ℕ). (id : ℕ) → holds (live_at (table_of new) s.at) id ≡ true → holds fresh id ≡ false
    → HasMoved (flow_of (table_of new)) c.args.last id (direction_of s.forward) s.offset (get_or loops id (0, 0))) ids (c.are_free.ensures.moved c.if-are_free.true)) in
    let more : (id : ℕ) → holds (live_at (table_of old) s.at) id ≡ true → (keyed_of (table_of old)).counted id ≡ false
    → (get_or loops id (0, 0)).0 + 1 + room c.args.last (direction_of s.forward) s.offset < (flow_of (table_of old)).most id =
    subst (λ (x : FlowTable). (id : ℕ) → holds (live_at (table_of x) s.at) id ≡ true → (keyed_of (table_of x)).counted id ≡ false
    → (get_or loops id (0, 0)).0 + 1 + room c.args.last (direction_of s.forward) s.offset < (flow_of (table_of x)).most id) c.plane_of.ensures.table
    (c.are_free.ensures.room c.if-are_free.true) in
    c.mark.ensures.known program input (c.plane_of.ensures.known program input known)
    (found-fails program input old new s false loops planes c.in-Some.k p c.plane_of.ensures.table there is
    (λ told. plane-fails program input (table_of old) c.args.last s loops p told (sym c.is_calm.ensures ∙ c.if-not-is_calm.false) moved more fails))

pub returns-in_default-clause-known : goal.returns-in_default-clause-known
returns-in_default-clause-known c program input known fails = c.plane_of.ensures.known program input known
