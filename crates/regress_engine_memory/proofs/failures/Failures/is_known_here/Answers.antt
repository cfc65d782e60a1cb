use Rattle.std.specs.Prelude.{map, slice_get}
use Rattle.std.proofs.Common.{◌≡◌, List, [], Some, refl, ap, sym, ◌∙◌, arith}
use Rattle.std.proofs.lemmas.Option.{slice_get-get_or}
use Rattle.regress_engine_search.specs.StateViews.{loop_of}
use Rattle.regress_engine_memory.specs.TableViews.{table_of}
use Rattle.regress_engine_memory.specs.declared.failures.Plane.{Plane}
use Rattle.regress_engine_memory.proofs.PlaneLemmas.{told-here}
use Rattle.regress_engine_memory.proofs.failures.Failures.is_known_here.Goals as goal

pub returns-then-is_plane : goal.returns-then-is_plane
returns-then-is_plane c set program input known =
    let planes : List Plane = c.args.self.now.planes.items in
    let p : Plane = c.index-plane.result.now in
    let there : slice_get planes c.in-Some.k ≡ Some p =
    slice_get-get_or planes c.in-Some.k p (omega (arith, c.if-k-len.false)) ∙ ap (λ x. Some x) (sym c.index-plane.ensures) in
    told-here program input (table_of c.args.self.now.table) c.args.spot.now (map loop_of c.args.loops.now) p (c.is_plane.ensures c.if-is_plane.true)
    (known c.in-Some.k c.args.spot.now.offset p there (sym c.contains.ensures ∙ c.if-contains.true))

pub returns-then-count_fresh-eq0 : goal.returns-then-count_fresh-eq0
returns-then-count_fresh-eq0 c set program input known =
    let (classes, fails, has) = c.is_known.ensures set program input known in
    (classes, [], (λ ls gs count have begun. fails ls gs count have), has, refl)
