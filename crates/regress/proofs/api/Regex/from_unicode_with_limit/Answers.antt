use Rattle.std.proofs.lemmas.Result.{err_from_is_err_and}
use Rattle.regress_front.specs.FlagWords.{options}
use Rattle.regress_front.specs.TableViews.{table}
use Rattle.regress.proofs.LimitedLemmas.{refused-as, fits-as, twice-within, half-twice}
use Rattle.regress.proofs.api.Regex.from_unicode_with_limit.Goals as goal

pub returns-clause-accepted : goal.returns-clause-accepted
returns-clause-accepted c =
    let (p, spelled, within, cheap, bytes, units) = c.in_ok-compiled.ensures.accepted in (p, spelled, within, twice-within _ c.args.limit cheap, bytes, units)

pub returns-clause-small : goal.returns-clause-small
returns-clause-small c =
    (half-twice _ c.args.limit c.in_ok-compiled.ensures.small.0, half-twice _ c.args.limit c.in_ok-compiled.ensures.small.1)

pub returns-in_err-compiled-clause-refused : goal.returns-in_err-compiled-clause-refused
returns-in_err-compiled-clause-refused c =
    let answered = err_from_is_err_and c.from_residual-in_err-compiled.result c.from_residual-in_err-compiled.ensures.1 in
    rw (answered.1, answered.2) (refused-as c.args.limit (λ p. p) (table c.args.tables.now) (options c.args.flags) _ _ c.in_err-compiled.ensures.refused)

pub returns-in_err-compiled-clause-fits : goal.returns-in_err-compiled-clause-fits
returns-in_err-compiled-clause-fits c = λ plain short.
    let answered = err_from_is_err_and c.from_residual-in_err-compiled.result c.from_residual-in_err-compiled.ensures.1 in
    rw (answered.1, answered.2) (fits-as _ (c.in_err-compiled.ensures.fits plain short))
