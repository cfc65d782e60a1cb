use Rattle.regress_match.proofs.GroupLemmas.{same_groups}
use Rattle.regress_match.proofs.groups.GroupsClone.clone.Goals as goal

pub returns : goal.returns
returns c = record { cases = same_groups _ _ _ _ }
