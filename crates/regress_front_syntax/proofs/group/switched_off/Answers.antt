use Rattle.std.proofs.Common.{sym, ap, ◌∙◌}
use Rattle.regress_meaning.specs.Text.{span_up_to}
use Rattle.regress_meaning.specs.Grammar.{is_flag}
use Rattle.regress_front_syntax.proofs.OpeningLemmas.{switched_off-none}
use Rattle.regress_front_syntax.proofs.group.switched_off.Goals as goal

pub returns-else-eat-clause-read : goal.returns-else-eat-clause-read
returns-else-eat-clause-read c =
    switched_off-none _ _ _ (sym c.if-eat.ensures.found) (ap (span_up_to 0 is_flag) (sym c.if-eat.ensures.read) ∙ c.take_up_to.ensures.read is_flag (λ k r e. e))
