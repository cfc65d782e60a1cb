use Rattle.regress_meaning.proofs.MatchLemmas.{matches_bounded}
use Rattle.regress_meaning.proofs.matches_are_bounded.Goals as goal

pub returns : goal.returns
returns c = matches_bounded
