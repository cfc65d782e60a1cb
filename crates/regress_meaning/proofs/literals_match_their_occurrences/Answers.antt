use Rattle.regress_meaning.proofs.LiteralLemmas.{literal-matches}
use Rattle.regress_meaning.proofs.literals_match_their_occurrences.Goals as goal

pub returns : goal.returns
returns c = literal-matches
