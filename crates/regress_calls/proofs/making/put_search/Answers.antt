use Rattle.std.proofs.Common.{◌∙◌, sym, ap, subst}
use Rattle.std.specs.Prelude.{IfErr}
use Rattle.std.specs.Arc.{arc_value}
use Rattle.std.proofs.Common.{rules}
use Rattle.regress_calls.specs.Handles.{Content, content}
use Rattle.regress_calls.specs.Refusals.{MayRefuseCounted}
use Rattle.regress_calls.proofs.making.put_search.Goals as goal

pub returns-in_err-held-clause-refused : goal.returns-in_err-held-clause-refused
returns-in_err-held-clause-refused c =
    subst (λ (k : Content). IfErr c.from_residual-in_err-held.result (MayRefuseCounted k)) (sym c.in_ok-regex.ensures.shared) (search rules)

pub returns-clause-made : goal.returns-clause-made
returns-clause-made c =
    (arc_value c.in_ok-regex.regex, c.in_ok-regex.ensures.shared, ap content c.put.ensures ∙ c.in_ok-held.ensures.made)
