use Rattle.std.proofs.Common.{sym, ◌∙◌}
use Rattle.regress_engine_singles.proofs.LeadAheadLemmas.{lead_bytes}
use Rattle.regress_engine_singles.proofs.UnitStopLemmas.{units-shown}
use Rattle.regress_engine_advance.proofs.leads.lead_ahead.Goals as goal

pub unit_lead-requires-clause-kind : goal.unit_lead-requires-clause-kind
unit_lead-requires-clause-kind g c = (units-shown (g.Input.InputIndexer.view c.args.input.now) c.in-Some.units.now (sym c.in-Some.ensures)).0

pub unit_lead-requires-clause-units : goal.unit_lead-requires-clause-units
unit_lead-requires-clause-units g c = (units-shown (g.Input.InputIndexer.view c.args.input.now) c.in-Some.units.now (sym c.in-Some.ensures)).1

pub returns-in-None : goal.returns-in-None
returns-in-None g c = c.next_byte.ensures ∙ lead_bytes (g.Input.InputIndexer.view c.args.input.now) c.args.offset c.in-None.ensures
