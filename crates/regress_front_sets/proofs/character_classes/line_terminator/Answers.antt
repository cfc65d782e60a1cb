use Rattle.regress_front_sets.proofs.ClassLemmas.{members_of_line_ends}
use Rattle.regress_front_sets.proofs.character_classes.line_terminator.Goals as goal

pub returns-clause-members : goal.returns-clause-members
returns-clause-members c = members_of_line_ends
