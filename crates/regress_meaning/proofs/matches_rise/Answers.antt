use Rattle.regress_meaning.proofs.MatchLemmas.{matches_rise}
use Rattle.regress_meaning.proofs.matches_rise.Goals as goal

pub returns : goal.returns
returns c = matches_rise
