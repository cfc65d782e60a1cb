use Rattle.regress_engine_input.proofs.References.{repeated-told}
use Rattle.regress_engine_input.proofs.laws.references_go_by_code_points.Goals as goal

pub returns : goal.returns
returns c = repeated-told
