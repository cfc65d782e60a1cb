use Rattle.std.specs.Prelude.{slice_get}
use Rattle.std.proofs.Common.{◌≡◌, ℕ, true, false, List, length, Some, ap, sym, ◌∙◌, arith}
use Rattle.std.proofs.lemmas.Option.{slice_get-get_or}
use Rattle.regress_engine_memory.specs.declared.failures.Plane.{Plane}
use Rattle.regress_engine_memory.proofs.failures.Failures.find.Goals as goal

pub returns-then-is_plane : goal.returns-then-is_plane
returns-then-is_plane c =
    let planes : List Plane = c.args.self.now.planes.items in
    let p : Plane = c.index-plane.result.now in
    let there : slice_get planes c.in_ok-k.k ≡ Some p =
    slice_get-get_or planes c.in_ok-k.k p (omega (arith, c.if-k-len.false)) ∙ ap (λ x. Some x) (sym c.index-plane.ensures) in
    (p, there, c.is_plane.ensures c.if-is_plane.true, sym (ap length c.as_slice.ensures.value) ∙ c.if-as_slice-fresh.true)
