use Rattle.std.specs.Prelude.{map}
use Rattle.std.proofs.Common.{◌≡◌, ℕ, true, List, length, get_or, subst, arith}
use Rattle.regress_meaning.specs.Text.{holds}
use Rattle.regress_engine_search.specs.StateViews.{loop_of}
use Rattle.regress_engine_memory.specs.Deciding.{Table}
use Rattle.regress_engine_memory.specs.Keys.{class_of}
use Rattle.regress_engine_memory.specs.Remembered.{class_in, keyed_of}
use Rattle.regress_engine_memory.specs.TableViews.{table_of}
use Rattle.regress_engine_memory.proofs.ClassLemmas.{classes-are}
use Rattle.regress_engine_memory.proofs.flow.FlowTable.have_classes.Goals as goal

pub returns : goal.returns
returns c e id held =
    let t : Table = table_of c.args.self.now in
    let classes : List ℕ = c.args.classes.now in
    let live : List ℕ = c.live-live.result.now in
    let class : ℕ → ℕ = λ i. class_of (keyed_of t) i (get_or (map loop_of c.args.loops.now) i (0, 0)).0 in
    let size : length classes ≡ length live = omega (arith, c.if-classes-live.false) in
    let full = c.loop-k-test.false in
    subst (λ (ids : List ℕ). holds ids id ≡ true → class id ≡ class_in ids classes id) c.live-live.ensures
    (classes-are class live classes size (λ k less. c.loop-k.invariant.each k (omega (arith, less, full))) id) held
