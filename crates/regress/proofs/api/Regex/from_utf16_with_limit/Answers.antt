use Rattle.std.specs.Prelude.{IfOk, IfErr, false}
use Rattle.std.proofs.Common.{◌≡◌, ◌≢◌, ◌≤◌, ℕ, List, length, subst, ◌∙◌}
use Rattle.regress_front_core.specs.declared.error.Error.TheVariants.{TooLarge}
use Rattle.regress_front.specs.FlagWords.{options}
use Rattle.regress_front.specs.TableViews.{table}
use Rattle.regress_errors.specs.Texts.{shown_text}
use Rattle.regress_errors.specs.declared.errors.CompileError.TheVariants as error
use Rattle.regress.specs.Limited.{StandsWithin, MayRefuseWithin}
use Rattle.regress.specs.Standing.{source_of}
use Rattle.regress.proofs.api.Regex.from_utf16_with_limit.Goals as goal

pub from_unicode_with_limit-requires : goal.from_unicode_with_limit-requires
from_unicode_with_limit-requires c = rw c.deref.ensures.value c.in_ok-points.ensures.within

pub returns-clause-accepted : goal.returns-clause-accepted
returns-clause-accepted c =
    subst (λ (points : List ℕ). IfOk c.from_unicode_with_limit.result (StandsWithin c.args.limit (λ p. p) (table c.args.tables.now) (options c.args.flags) points))
    (c.deref.ensures.value ∙ c.in_ok-points.ensures.points) c.from_unicode_with_limit.ensures.accepted

pub returns-clause-text : goal.returns-clause-text
returns-clause-text c =
    subst (λ (points : List ℕ). IfOk c.from_unicode_with_limit.result (λ r. source_of r ≡ shown_text points))
    (c.deref.ensures.value ∙ c.in_ok-points.ensures.points) c.from_unicode_with_limit.ensures.text

pub returns-clause-refused : goal.returns-clause-refused
returns-clause-refused c =
    subst (λ (points : List ℕ). IfErr c.from_unicode_with_limit.result (MayRefuseWithin c.args.limit (λ p. p) (table c.args.tables.now) (options c.args.flags) points))
    (c.deref.ensures.value ∙ c.in_ok-points.ensures.points) c.from_unicode_with_limit.ensures.refused

pub returns-clause-fits : goal.returns-clause-fits
returns-clause-fits c =
    subst (λ (points : List ℕ). (options c.args.flags).sets ≡ false → length points ≤ 10000 → IfErr c.from_unicode_with_limit.result (λ e. e ≢ error.Pattern TooLarge))
    (c.deref.ensures.value ∙ c.in_ok-points.ensures.points) c.from_unicode_with_limit.ensures.fits
