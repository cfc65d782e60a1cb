use Rattle.std.specs.Str.{chars}
use Rattle.regress_meaning.specs.Matches.{match_list}
use Rattle.regress_meaning.specs.Offsets.{of_utf8}
use Rattle.regress.proofs.LawLemmas.{joined-parts, parts-back}
use Rattle.regress.proofs.laws.parts_stand_between_the_matches.Goals as goal

pub returns-clause-replaced : goal.returns-clause-replaced
returns-clause-replaced c = joined-parts

pub returns-clause-back : goal.returns-clause-back
returns-clause-back c = λ t o p text. parts-back text (of_utf8 text) (match_list t o p (chars text) 0) (c.matches_rise.ensures t o p (chars text) 0)
