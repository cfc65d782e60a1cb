use Rattle.regress_meaning.proofs.WholeTextLemmas.{no-later_matches, whole-matches, match-found, found-match}
use Rattle.regress_meaning.proofs.whole_texts_match_by_some_outcome.Goals as goal

pub returns-clause-found : goal.returns-clause-found
returns-clause-found c = λ table o p text. (match-found table o p text, found-match table o p text)

pub returns-clause-items : goal.returns-clause-items
returns-clause-items c = whole-matches

pub returns-clause-later : goal.returns-clause-later
returns-clause-later c = no-later_matches
