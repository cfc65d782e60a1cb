use Rattle.regress_engine_singles.proofs.UnitStopLemmas.{stop-found, stop-none}
use Rattle.regress_engine_singles.proofs.unit_stops.next_unit_stop.Goals as goal

pub returns-in-Some : goal.returns-in-Some
returns-in-Some c = stop-found c.args.stops c.args.units.now c.args.offset c.in-Some.index c.in-Some.ensures.inside c.in-Some.ensures.least

pub returns-in-None : goal.returns-in-None
returns-in-None c = stop-none c.args.stops c.args.units.now c.args.offset c.requires c.in-None.ensures.least
