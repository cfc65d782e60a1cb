use Rattle.regress_meaning.proofs.MatchLemmas.{matches_end, matches_go, first_match-later}
use Rattle.regress_meaning.proofs.matches_go_on.Goals as goal

pub returns-clause-ends : goal.returns-clause-ends
returns-clause-ends c = matches_end

pub returns-clause-goes : goal.returns-clause-goes
returns-clause-goes c = matches_go

pub returns-clause-later : goal.returns-clause-later
returns-clause-later c = first_match-later
