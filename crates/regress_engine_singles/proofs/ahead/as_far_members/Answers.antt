use Rattle.std.proofs.Common.{◌≤◌, length, sym, rules, arith}
use Rattle.regress_front_bytes.specs.Bitmaps.{ascii_bitmap_contains}
use Rattle.regress_engine_singles.proofs.RunLemmas.{members-far}
use Rattle.regress_engine_singles.proofs.StopLemmas.{bytes-shown}
use Rattle.regress_engine_singles.proofs.UnitStopLemmas.{units-shown}
use Rattle.regress_engine_singles.proofs.ahead.as_far_members.Goals as goal

pub returns-in-Some : goal.returns-in-Some
returns-in-Some g c =
    let v = g.Input.InputIndexer.view c.args.input.now in
    let text = c.in-Some.text.now in
    let inside : c.args.offset ≤ length text = search rules in
    members-far v (g.met.Input.InputIndexer.are_of_kind c.args.input.now) (ascii_bitmap_contains c.args.bitmap.now) c.ascii_bitmap_holds_ascii.ensures text (bytes-shown v text (sym c.in-Some.ensures)).1
    c.args.times c.args.offset c.min.result c.run_end.result c.requires inside c.min.ensures c.run_end.ensures

pub returns-in-Some-units : goal.returns-in-Some-units
returns-in-Some-units g c =
    let v = g.Input.InputIndexer.view c.args.input.now in
    let units = c.in-Some-units.units.now in
    members-far v (g.met.Input.InputIndexer.are_of_kind c.args.input.now) (ascii_bitmap_contains c.args.bitmap.now) c.ascii_bitmap_holds_ascii.ensures units (units-shown v units (sym c.in-Some-units.ensures)).1
    c.args.times c.args.offset c.min-in-Some-units.result c.run_end_among.result c.requires (omega arith) c.min-in-Some-units.ensures c.run_end_among.ensures
