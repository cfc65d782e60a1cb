use Rattle.std.proofs.Common.{List, ℕ, subst, ◌∙◌}
use Rattle.std.proofs.lemmas.Result.{err_from_is_err_and}
use Rattle.regress_meaning.specs.WholeText.{whole_text}
use Rattle.regress_front.specs.FlagWords.{options}
use Rattle.regress_front.specs.TableViews.{table}
use Rattle.regress_front_bytes.proofs.TextLemmas.{chars-code_points}
use Rattle.regress_errors.specs.ErrorTexts.{compile_error_of}
use Rattle.regress.specs.Limited.{MayRefuseWithin}
use Rattle.regress.proofs.LimitedLemmas.{refused-as, fits-as, twice-within, half-twice}
use Rattle.regress.proofs.api.Regex.whole_text_with_limit.Goals as goal

pub whole_text_within-requires : goal.whole_text_within-requires
whole_text_within-requires c = rw (c.deref.ensures.value, c.in_ok-points.ensures) (chars-code_points c.args.pattern.now c.utf8.pattern)

pub returns-clause-accepted : goal.returns-clause-accepted
returns-clause-accepted c =
    rw (← c.in_ok-points.ensures, ← c.deref.ensures.value)
    (let (p, spelled, within, cheap, bytes, units) = c.in_ok-compiled.ensures.accepted in (p, spelled, within, twice-within _ c.args.limit cheap, bytes, units))

pub returns-clause-small : goal.returns-clause-small
returns-clause-small c =
    (half-twice _ c.args.limit c.in_ok-compiled.ensures.small.0, half-twice _ c.args.limit c.in_ok-compiled.ensures.small.1)

pub returns-in_err-compiled-clause-refused : goal.returns-in_err-compiled-clause-refused
returns-in_err-compiled-clause-refused c =
    let t = table c.args.tables.now in
    let o = options c.args.flags in
    let answered = err_from_is_err_and c.from_residual-in_err-compiled.result c.from_residual-in_err-compiled.ensures.1 in
    let refused = refused-as c.args.limit whole_text t o _ _ c.in_err-compiled.ensures.refused in
    rw (answered.1, answered.2)
    (subst (λ (points : List ℕ). MayRefuseWithin c.args.limit whole_text t o points (compile_error_of c.in_err-compiled.field-0.0))
    (c.deref.ensures.value ∙ c.in_ok-points.ensures) refused)

pub returns-in_err-compiled-clause-fits : goal.returns-in_err-compiled-clause-fits
returns-in_err-compiled-clause-fits c = λ plain short.
    let answered = err_from_is_err_and c.from_residual-in_err-compiled.result c.from_residual-in_err-compiled.ensures.1 in
    rw (answered.1, answered.2) (fits-as _ (c.in_err-compiled.ensures.fits plain (rw (c.deref.ensures.value, c.in_ok-points.ensures) short)))
