use Rattle.std.proofs.Common.{◌==◌, arith}
use Rattle.regress_meaning.specs.TableParts.{image}
use Rattle.regress_front_tables.specs.Folding.{Lists}
use Rattle.regress_front_tables.specs.MapViews.{pairs_of}
use Rattle.regress_front_tables.proofs.FoldingLemmas.{Lists-told, Lists-alone, Lists-few}
use Rattle.regress_front_tables.proofs.folding.sharing.Goals.{in-Some+in_ok-from_slice-in-Some, in-None+in_ok-vec-in-None}
use Rattle.regress_front_tables.proofs.folding.sharing.Goals as goal

pub returns-clause-few : goal.returns-clause-few
returns-clause-few c =
    let map = c.args.map.now in
    let pairs = pairs_of map in
    let listed : Lists (λ d. image pairs d == image pairs c.args.c) c.match-class.result.items = elim c.match-class.branch [
      | in-Some+in_ok-from_slice-in-Some w ↦
          rw (w.result-is, w.in_ok-from_slice-in-Some.ensures.items)
          (Lists-told pairs c.args.c w.in-Some.members.now (rw (w.in-Some.is, c.image.ensures) at c.class.ensures))
      | in-None+in_ok-vec-in-None w ↦
          rw (w.result-is, w.in_ok-vec-in-None.ensures.items)
          (Lists-alone pairs c.args.c c.requires (rw (w.in-None.is, c.image.ensures) at c.class.ensures))
    ] in
    let few = Lists-few pairs map.lawful c.args.c c.match-class.result.items c.requires listed in
    let len = c.match-class.result.ok.0 in
    (omega (arith, few.0, len), omega (arith, few.1, len))
