use Rattle.regress_meaning.specs.Table.{canon}
use Rattle.regress_front_tables.proofs.folding.unfold_char.Goals as goal

pub returns-clause-members : goal.returns-clause-members
unfolding canon
returns-clause-members c = rw c.map_of.ensures at c.in_ok-sharing.ensures.members
