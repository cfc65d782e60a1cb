use Rattle.regress_front_tokens.proofs.TokenLemmas.{unicode_escape-else, unicode_escape-braced}
use Rattle.regress_front_tokens.proofs.cursor.Cursor.unicode_escape.Goals as goal

pub returns-in-None-clause-read : goal.returns-in-None-clause-read
returns-in-None-clause-read c =
    unicode_escape-else _ _ c.unicode_pair.result _ c.in-None.ensures.read.0 c.in-None.ensures.read.1 c.unicode_pair.ensures.read

pub returns-in_default-clause-read : goal.returns-in_default-clause-read
returns-in_default-clause-read c = unicode_escape-braced _ c.braced.result _ c.in_default.not-None c.braced.ensures.read
