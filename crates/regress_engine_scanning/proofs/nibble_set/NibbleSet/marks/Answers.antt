use Rattle.std.proofs.Common.{map, ap, ◌∙◌, arith}
use Rattle.std.specs.Simd.Lanes.{mask_l}
use Rattle.std.proofs.lemmas.List.{length-map}
use Rattle.regress_engine_scanning.specs.NibbleSets.{nibble_set_contains}
use Rattle.regress_engine_scanning.proofs.ScanLemmas.{lane-marks}
use Rattle.regress_engine_scanning.proofs.nibble_set.NibbleSet.marks.Goals as goal

pub returns : goal.returns
returns g c =
    let set = nibble_set_contains c.args.self.now in
    let units = map g.U.Unit.number c.args.units.now in
    let size = length-map c.args.units.now g.U.Unit.number in
    lane-marks set units c.args.from 16 c.marks_of.result (omega (arith, size, c.requires.room)) (omega arith)
    (c.marks_of.ensures ∙ ap mask_l (c.narrowed_from.ensures set c.requires.fits))
