use Rattle.regress_meaning.proofs.PointLemmas.{Spells-points}
use Rattle.regress_meaning.proofs.spelled_trees_hold_code_points.Goals as goal

pub returns : goal.returns
returns c = Spells-points
