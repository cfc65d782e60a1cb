use Rattle.std.specs.Prelude.{map, slice_get}
use Rattle.std.proofs.Common.{◌≡◌, ℕ, ◌++◌, [], ◌∷◌, List, length, Some, refl, sym, ap, subst, ◌∙◌}
use Rattle.regress_engine_search.specs.StateViews.{loop_of}
use Rattle.regress_engine_memory.specs.Deciding.{Table, flow_of}
use Rattle.regress_engine_memory.specs.Keys.{AreFresh}
use Rattle.regress_engine_memory.specs.Planes.{KnownIn}
use Rattle.regress_engine_memory.specs.Remembered.{HaveClasses}
use Rattle.regress_engine_memory.specs.TableViews.{table_of}
use Rattle.regress_engine_memory.specs.declared.flow.FlowTable.{FlowTable}
use Rattle.regress_engine_memory.specs.declared.failures.Plane.{Plane}
use Rattle.regress_engine_memory.proofs.PlaneLemmas.{known-more, known-there, last-there}
use Rattle.regress_engine_memory.proofs.failures.Failures.add.Goals as goal

pub returns-in_err-make_head-clause-known : goal.returns-in_err-make_head-clause-known
returns-in_err-make_head-clause-known c program input known =
    known-there program input (table_of c.args.self.now.table) (table_of c.make_head.new.self.table) c.args.self.now.planes.items c.make_head.new.self.planes.items
    (ap table_of c.make_head.ensures.table) c.make_head.ensures.planes known

pub returns-in_err-push-clause-known : goal.returns-in_err-push-clause-known
returns-in_err-push-clause-known c program input known =
    known-there program input (table_of c.args.self.now.table) (table_of c.make_head.new.self.table) c.args.self.now.planes.items c.push.new.self.items
    (ap table_of c.make_head.ensures.table) (c.in_err-push.ensures.items ∙ c.make_head.ensures.planes) known

pub returns-clause-known : goal.returns-clause-known
returns-clause-known c program input known =
    let t : Table = table_of c.make_head.new.self.table in
    let planes : List Plane = c.make_head.new.self.planes.items in
    let p : Plane =
    record { at = c.args.spot.now.at; forward = c.args.spot.now.forward; further = c.args.further; classes = c.in_ok-classes.classes; fresh = c.in_ok-those.those; offsets = c.new.result; next = c.index-next.result.now } in
    let before : KnownIn program input t planes =
    known-there program input (table_of c.args.self.now.table) t c.args.self.now.planes.items planes (ap table_of c.make_head.ensures.table) c.make_head.ensures.planes known in
    subst (KnownIn program input t) (sym {A = List Plane} c.in_ok-push.ensures.items) (known-more program input t planes p c.new.ensures before)

pub returns-clause-plane : goal.returns-clause-plane
returns-clause-plane c =
    let t : Table = table_of c.make_head.new.self.table in
    let planes : List Plane = c.make_head.new.self.planes.items in
    let p : Plane =
    record { at = c.args.spot.now.at; forward = c.args.spot.now.forward; further = c.args.further; classes = c.in_ok-classes.classes; fresh = c.in_ok-those.those; offsets = c.new.result; next = c.index-next.result.now } in
    let k : ℕ = length c.as_slice-k.result.now in
    let count : k ≡ length planes = ap length c.as_slice-k.ensures.value in
    let there : slice_get c.push.new.self.items k ≡ Some p =
    ap (λ (xs : List Plane). slice_get xs k) c.in_ok-push.ensures.items ∙ ap (slice_get (planes ++ p ∷ [])) count ∙ last-there planes p in
    let here : HaveClasses (table_of c.args.self.now.table) c.args.spot.now.at p.classes.items (map loop_of c.args.loops.now) =
    subst (λ (classes : List ℕ). HaveClasses (table_of c.args.self.now.table) c.args.spot.now.at classes (map loop_of c.args.loops.now)) c.deref-else-not-are_fresh.ensures.value
    (c.have_classes.ensures c.if-not-have_classes.false) in
    let has : HaveClasses t c.args.spot.now.at p.classes.items (map loop_of c.args.loops.now) =
    subst (λ (x : FlowTable). HaveClasses (table_of x) c.args.spot.now.at p.classes.items (map loop_of c.args.loops.now)) (sym c.make_head.ensures.table) here in
    let fresh : AreFresh (flow_of (table_of c.args.self.now.table)) c.args.spot.now.offset p.fresh.items (map loop_of c.args.loops.now) =
    subst (λ (ids : List ℕ). AreFresh (flow_of (table_of c.args.self.now.table)) c.args.spot.now.offset ids (map loop_of c.args.loops.now)) c.deref.ensures.value
    (sym c.are_fresh.ensures ∙ c.if-not-are_fresh.false) in (
      p,
      there,
      (
        refl,
        refl,
        has,
        refl,
        subst (λ (x : FlowTable). AreFresh (flow_of (table_of x)) c.args.spot.now.offset p.fresh.items (map loop_of c.args.loops.now)) (sym c.make_head.ensures.table) fresh,
      ),
    )
