use Rattle.std.proofs.Common.{◌≡◌, ◌∙◌, ℕ, sym, subst}
use Rattle.std.specs.Arc.{arc_value}
use Rattle.regress.specs.declared.api.Regex.{Regex}
use Rattle.regress_calls.specs.Stopping.{IsEnough}
use Rattle.regress_calls.proofs.CopyLemmas.{one-pattern}
use Rattle.regress_calls.proofs.StepsLemmas.{told-enough}
use Rattle.regress_calls.proofs.asking.linear_steps.Goals as goal

pub returns-clause-enough : goal.returns-clause-enough
returns-clause-enough c = λ r holds.
    let same : c.deref.result.now ≡ r = c.deref.ensures ∙ one-pattern (arc_value c.in_ok-regex.regex) r (sym c.in_ok-regex.ensures.held ∙ holds) in
    let told = c.linear_steps.ensures in
    subst (λ (x : Regex). IsEnough x c.args.units c.unwrap_or.result) same
    (subst (λ (n : ℕ). IsEnough c.deref.result.now c.args.units n) (sym c.unwrap_or.ensures) (told-enough c.deref.result.now c.args.units c.linear_steps.result told.enough told.least told.none))
