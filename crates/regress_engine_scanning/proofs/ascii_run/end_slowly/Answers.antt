use Rattle.std.proofs.Common.{◌<◌, ◌∙◌, sym, ap, arith, length, map}
use Rattle.std.proofs.lemmas.List.{get_or-map}
use Rattle.regress_front_bytes.specs.Bitmaps.{ascii_bitmap_contains}
use Rattle.regress_engine_scanning.proofs.AsciiRuns.{one-more}
use Rattle.regress_engine_scanning.proofs.ascii_run.end_slowly.Goals as goal

pub loop-index-preserved : goal.loop-index-preserved
loop-index-preserved g c =
    let contains = ascii_bitmap_contains c.args.set.now in
    let at = c.loop-index.index in
    let unit = c.index-units-index.result in
    let room : at < length c.args.units.now = omega (arith, c.requires.inside, c.loop-index-test.true) in
    let here = get_or-map g.U.Unit.number c.args.units.now at unit 0 room ∙ ap g.U.Unit.number (sym c.index-units-index.is) in
    let same = c.narrowed.ensures contains c.requires.fits in
    one-more contains (map g.U.Unit.number c.args.units.now) c.args.from at c.loop-index.invariant (ap contains here ∙ sym same ∙ sym c.contains.ensures ∙ c.if-not-contains.false)
