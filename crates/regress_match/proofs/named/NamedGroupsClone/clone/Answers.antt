use Rattle.regress_match.proofs.NamedLemmas.{same_named}
use Rattle.regress_match.proofs.named.NamedGroupsClone.clone.Goals as goal

pub returns : goal.returns
returns c = record { cases = same_named _ _ _ _ }
