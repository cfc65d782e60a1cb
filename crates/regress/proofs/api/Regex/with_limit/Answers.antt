use Rattle.std.proofs.Common.{◌∙◌}
use Rattle.regress_front_bytes.proofs.TextLemmas.{chars-code_points}
use Rattle.regress.proofs.ShownLemmas.{text-as}
use Rattle.regress.proofs.api.Regex.with_limit.Goals as goal

pub from_unicode_with_limit-requires : goal.from_unicode_with_limit-requires
from_unicode_with_limit-requires c = rw (c.deref.ensures.value, c.in_ok-points.ensures) (chars-code_points c.args.pattern.now c.utf8.pattern)

pub returns-clause-text : goal.returns-clause-text
returns-clause-text c =
    text-as c.from_unicode_with_limit.result _ c.args.pattern.now c.utf8.pattern (c.deref.ensures.value ∙ c.in_ok-points.ensures) c.from_unicode_with_limit.ensures.text

pub returns-clause-fits : goal.returns-clause-fits
returns-clause-fits c = λ plain short. c.from_unicode_with_limit.ensures.fits plain (rw (c.deref.ensures.value, c.in_ok-points.ensures) short)
