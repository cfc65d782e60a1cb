use Rattle.std.specs.Str.{chars}
use Rattle.regress_meaning.specs.Matches.{match_list}
use Rattle.regress_meaning.specs.Offsets.{of_utf8}
use Rattle.regress.proofs.LawLemmas.{all-back, first-back}
use Rattle.regress.proofs.laws.whole_matches_give_the_text_back.Goals as goal

pub returns-clause-all : goal.returns-clause-all
returns-clause-all c = λ t o p names text. all-back names text (of_utf8 text) (match_list t o p (chars text) 0) (c.matches_rise.ensures t o p (chars text) 0)

pub returns-clause-first : goal.returns-clause-first
returns-clause-first c = λ t o p names text. first-back names text (of_utf8 text) (match_list t o p (chars text) 0) (c.matches_rise.ensures t o p (chars text) 0)
