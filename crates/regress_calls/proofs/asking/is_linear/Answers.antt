use Rattle.std.proofs.Common.{◌∙◌, sym, ap}
use Rattle.std.specs.Arc.{arc_value}
use Rattle.regress.specs.Linear.{is_linear}
use Rattle.regress_calls.proofs.CopyLemmas.{one-pattern}
use Rattle.regress_calls.proofs.asking.is_linear.Goals as goal

pub returns-clause-linear : goal.returns-clause-linear
returns-clause-linear c = λ r holds.
    c.is_linear.ensures ∙ ap is_linear (c.deref.ensures ∙ one-pattern (arc_value c.in_ok-regex.regex) r (sym c.in_ok-regex.ensures.held ∙ holds))
