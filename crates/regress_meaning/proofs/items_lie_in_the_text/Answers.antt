use Rattle.regress_meaning.proofs.MatchLemmas.{matches_lie, matches_counted}
use Rattle.regress_meaning.proofs.items_lie_in_the_text.Goals as goal

pub returns-clause-inside : goal.returns-clause-inside
returns-clause-inside c = matches_lie

pub returns-clause-groups : goal.returns-clause-groups
returns-clause-groups c = matches_counted
