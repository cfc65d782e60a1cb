use Rattle.std.proofs.Common.{◌/◌, rules, ◌∙◌}
use Rattle.std.proofs.lemmas.List.{map-id}
use Rattle.regress_engine_scanning.proofs.HalfTables.{each-half, rows-upper}
use Rattle.regress_engine_scanning.proofs.byte_set.upper_of.Goals as goal

pub overflow_cast-result : goal.overflow_cast-result
overflow_cast-result c =
    rw (rows-upper c.args.rows c.fits-rows.0) (each-half _ (λ row. row / 256) (λ row small. search rules) c.args.rows c.fits-rows.1)

pub returns : goal.returns
returns c = map-id _ ∙ rows-upper c.args.rows c.fits-rows.0
