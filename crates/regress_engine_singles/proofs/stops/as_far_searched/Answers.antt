use Rattle.std.proofs.Common.{List, ℕ, subst, sym, arith}
use Rattle.regress_front_sets.specs.Intervals.{ends_of}
use Rattle.regress_front_nodes.specs.TreeMeaning.{bracket_has}
use Rattle.regress_engine_singles.specs.Passing.{StopsAt}
use Rattle.regress_engine_singles.proofs.StopLemmas.{far-stopped, bytes-shown}
use Rattle.regress_engine_singles.proofs.stops.as_far_searched.Goals as goal

pub returns : goal.returns
returns g c =
    let v = g.Input.InputIndexer.view c.args.input.now in
    let class = c.args.class.now in
    let (are, same) = bytes-shown v c.in_ok-bytes.bytes.now (sym c.in_ok-bytes.ensures) in
    let at : StopsAt c.in_ok-stops.stops v.units c.args.offset c.next_stop.result = subst (λ (bs : List ℕ). StopsAt c.in_ok-stops.stops bs c.args.offset c.next_stop.result) same c.next_stop.ensures in
    let room = c.next_stop.ensures.room in
    let few = c.if-bytes-offset.false in
    sym (far-stopped v (g.met.Input.InputIndexer.are_of_kind c.args.input.now) are c.in_ok-stops.stops c.in_ok-stops.ensures.ascii (bracket_has class.invert (ends_of class.cps.intervals.items)) c.in_ok-stops.ensures.others
    c.args.offset c.next_stop.result at c.args.times c.args.offset c.requires (omega arith) at.low (omega (arith, room, few)))
