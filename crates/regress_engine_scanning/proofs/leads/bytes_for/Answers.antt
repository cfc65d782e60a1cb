use Rattle.std.proofs.Common.{◌<◌, rules, ◌∙◌}
use Rattle.std.proofs.lemmas.List.{map-id}
use Rattle.regress_engine_scanning.proofs.HalfTables.{each-half}
use Rattle.regress_engine_scanning.proofs.LeadTables.{lane_for, lane-small, lanes-bytes, lanes-told}
use Rattle.regress_engine_scanning.proofs.leads.bytes_for.Goals as goal

pub overflow_cast-result : goal.overflow_cast-result
overflow_cast-result c =
    rw (lanes-told c.args.units c.fits-units.0)
    (each-half _ lane_for (λ unit small. let few : lane_for unit < 256 = lane-small unit small in search rules) c.args.units c.fits-units.1)

pub returns : goal.returns
returns c = map-id _ ∙ lanes-told c.args.units c.fits-units.0 ∙ lanes-bytes c.args.units c.fits-units.1
