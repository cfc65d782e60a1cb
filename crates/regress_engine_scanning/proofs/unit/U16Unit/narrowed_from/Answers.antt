use Rattle.std.proofs.Common.{ap, map, sym, ◌∙◌, rules}
use Rattle.std.specs.Simd.Lanes.{chunk}
use Rattle.std.proofs.lemmas.List.{map-id}
use Rattle.std.proofs.lemmas.Simd.{length-chunk}
use Rattle.regress_engine_scanning.proofs.NarrowLemmas.{narrowed-lanes, narrowed-held, each-small}
use Rattle.regress_engine_scanning.proofs.unit.U16Unit.narrowed_from.Goals as goal

pub overflow_cast-result : goal.overflow_cast-result
overflow_cast-result c =
    let units = chunk c.args.from 16 c.args.units.now in
    rw (narrowed-lanes units (length-chunk c.args.from 16 c.args.units.now c.requires)) (each-small _ (λ n small. search rules) units)

pub returns : goal.returns
returns c = λ set low.
    let units = chunk c.args.from 16 c.args.units.now in
    rw (narrowed-lanes units (length-chunk c.args.from 16 c.args.units.now c.requires))
    (ap (map set) (map-id _) ∙ narrowed-held set low units ∙ ap (λ xs. map set (chunk c.args.from 16 xs)) (sym (map-id c.args.units.now)))
