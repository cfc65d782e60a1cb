use Rattle.std.proofs.Common.{ℕ, subst, sym, refl}
use Rattle.regress_meaning.specs.Offsets.{Begins}
use Rattle.regress.proofs.UnitLemmas.{begins-anywhere}
use Rattle.regress_calls.specs.declared.text.Text.{Text}
use Rattle.regress_calls.specs.Texts.{reading_of_text}
use Rattle.regress_calls.proofs.text.Text.is_start.Goals as goal

pub returns-in-Ucs2 : goal.returns-in-Ucs2
returns-in-Ucs2 c =
    (λ yes. subst (λ (t : Text). (x : ℕ) × Begins (reading_of_text t) c.args.start x) (sym c.in-Ucs2.is) (begins-anywhere c.in-Ucs2.field-0.now c.args.start), λ some. refl)
