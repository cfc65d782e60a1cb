use Rattle.regress_meaning.specs.Table.{canon}
use Rattle.regress_front_tables.proofs.folding.add_icase_code_points.Goals as goal

pub returns-clause-members : goal.returns-clause-members
unfolding canon
returns-clause-members c = c.closure.ensures.members
