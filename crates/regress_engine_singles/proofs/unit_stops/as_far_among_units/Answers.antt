use Rattle.std.proofs.Common.{List, ℕ, subst, sym, arith}
use Rattle.regress_front_sets.specs.Intervals.{ends_of}
use Rattle.regress_front_nodes.specs.TreeMeaning.{bracket_has}
use Rattle.regress_engine_singles.specs.Passing.{StopsAt}
use Rattle.regress_engine_singles.proofs.UnitStopLemmas.{far-among, units-shown}
use Rattle.regress_engine_singles.proofs.unit_stops.as_far_among_units.Goals as goal

pub returns : goal.returns
returns g c =
    let v = g.Input.InputIndexer.view c.args.input.now in
    let class = c.args.class.now in
    let (are, same) = units-shown v c.in_ok-units.units.now (sym c.in_ok-units.ensures) in
    let at : StopsAt c.in_ok-stops.stops v.units c.args.offset c.next_unit_stop.result = subst (λ (us : List ℕ). StopsAt c.in_ok-stops.stops us c.args.offset c.next_unit_stop.result) same c.next_unit_stop.ensures in
    let room = c.next_unit_stop.ensures.room in
    let few = c.if-offset-units.false in
    sym (far-among v are c.in_ok-stops.stops c.in_ok-stops.ensures.ascii (bracket_has class.invert (ends_of class.cps.intervals.items)) c.in_ok-stops.ensures.others
    c.args.offset c.next_unit_stop.result at c.args.times c.args.offset (omega arith) at.low (omega (arith, room, few)))
