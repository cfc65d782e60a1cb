use Rattle.std.proofs.Common.{length, arith}
use Rattle.regress_engine_singles.proofs.UnitStopLemmas.{ascii-others}
use Rattle.regress_engine_singles.proofs.unit_stops.next_other.Goals as goal

pub returns-in-Some-clause-each : goal.returns-in-Some-clause-each
returns-in-Some-clause-each c =
    let inside = c.in-Some.ensures.inside in
    ascii-others c.args.stops c.args.units.now c.args.offset c.in-Some.index (omega (arith, inside)) c.in-Some.ensures.least.2

pub returns-in-None-clause-each : goal.returns-in-None-clause-each
returns-in-None-clause-each c =
    ascii-others c.args.stops c.args.units.now c.args.offset (length c.args.units.now) (omega arith) (λ k from less. c.in-None.ensures.least k from)
