use Rattle.std.specs.Prelude.{IfOk, IfErr, false}
use Rattle.std.proofs.Common.{◌≡◌, ◌≢◌, ◌≤◌, ℕ, List, length, subst, ◌∙◌}
use Rattle.regress_meaning.specs.Grammar.{Spells}
use Rattle.regress_meaning.specs.Limits.{WithinLimits}
use Rattle.regress_meaning.specs.Pattern.{Pattern}
use Rattle.regress_front_core.specs.declared.error.Error.TheVariants.{TooLarge}
use Rattle.regress_front.specs.FlagWords.{options}
use Rattle.regress_front.specs.TableViews.{table}
use Rattle.regress.specs.Refusing.{MayRefuseRegex}
use Rattle.regress.specs.Standing.{StandsFor, StandsInUnits, source_of}
use Rattle.regress_errors.specs.Texts.{shown_text}
use Rattle.regress.proofs.api.Regex.from_utf16.Goals as goal

pub from_unicode-requires : goal.from_unicode-requires
from_unicode-requires c = rw c.deref.ensures.value c.in_ok-points.ensures.within

pub returns-clause-accepted : goal.returns-clause-accepted
returns-clause-accepted c =
    let t = table c.args.tables.now in
    let o = options c.args.flags in
    subst (λ (points : List ℕ). IfOk c.from_unicode.result (λ r. (p : Pattern) × Spells t o points p × WithinLimits p × StandsFor r t o p × StandsInUnits r t o p))
    (c.deref.ensures.value ∙ c.in_ok-points.ensures.points) c.from_unicode.ensures.accepted

pub returns-clause-text : goal.returns-clause-text
returns-clause-text c =
    subst (λ (points : List ℕ). IfOk c.from_unicode.result (λ r. source_of r ≡ shown_text points))
    (c.deref.ensures.value ∙ c.in_ok-points.ensures.points) c.from_unicode.ensures.text

pub returns-clause-refused : goal.returns-clause-refused
returns-clause-refused c =
    subst (λ (points : List ℕ). IfErr c.from_unicode.result (MayRefuseRegex (table c.args.tables.now) (options c.args.flags) points))
    (c.deref.ensures.value ∙ c.in_ok-points.ensures.points) c.from_unicode.ensures.refused

pub returns-clause-fits : goal.returns-clause-fits
returns-clause-fits c =
    subst (λ (points : List ℕ). (options c.args.flags).sets ≡ false → length points ≤ 10000 → IfErr c.from_unicode.result (λ e. e ≢ TooLarge))
    (c.deref.ensures.value ∙ c.in_ok-points.ensures.points) c.from_unicode.ensures.fits
