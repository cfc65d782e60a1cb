use Rattle.std.proofs.Common.{[], Some, Ok, Err, arith, refl, sym, ap, ◌∙◌}
use Rattle.regress_engine_code.specs.Standing.{names_of}
use Rattle.esgrep_patterns.proofs.HitLemmas.{later-hit}
use Rattle.esgrep_patterns.proofs.BoundLemmas.{within-hit, given-err, given-some, handed-same, within-too_long, all-too_long}
use Rattle.esgrep_patterns.proofs.patterns.first_within.Goals as goal

pub returns-in_default-clause-found : goal.returns-in_default-clause-found
returns-in_default-clause-found c = λ s seeks place begins.
    let made = c.in_ok-find_from.ensures in
    let bound = c.within-bounded.ensures in
    let given = within-hit c.args.text.now place s _ _ _ c.next.result c.next.ensures.steps.first
    (made.matches s.table s.options s.pattern (bound.stands s.table s.options s.pattern seeks.0) place begins)
    (λ m is. is.1 ∙ ap names_of made.program ∙ bound.named ∙ seeks.1) in
    rw (← c.transpose.ensures, c.in_ok-found.was, c.in_default.is) at given

pub returns-then-start-clause-found : goal.returns-then-start-clause-found
returns-then-start-clause-found c = λ s seeks place begins.
    let text = c.args.text.now in
    let made = c.in_ok-find_from.ensures in
    let bound = c.within-bounded.ensures in
    let given = within-hit c.args.text.now place s _ _ _ c.next.result c.next.ensures.steps.first
    (made.matches s.table s.options s.pattern (bound.stands s.table s.options s.pattern seeks.0) place begins)
    (λ m is. is.1 ∙ ap names_of made.program ∙ bound.named ∙ seeks.1) in
    let here = rw (← c.transpose.ensures, c.in_ok-found.was, c.in-Some.is) at given in
    let later = later-hit text place s c.args.start begins c.in-Some.found here in
    absurd (omega (arith, later, c.if-start.true))

pub returns-clause-found : goal.returns-clause-found
returns-clause-found c = λ s seeks place begins.
    let made = c.in_ok-find_from.ensures in
    let bound = c.within-bounded.ensures in
    let given = within-hit c.args.text.now place s _ _ _ c.next.result c.next.ensures.steps.first
    (made.matches s.table s.options s.pattern (bound.stands s.table s.options s.pattern seeks.0) place begins)
    (λ m is. is.1 ∙ ap names_of made.program ∙ bound.named ∙ seeks.1) in
    rw (← c.transpose.ensures, c.in_ok-found.was, c.in-Some.is) at given

pub returns-clause-inside : goal.returns-clause-inside
returns-clause-inside c =
    let given = given-some c.next.result _ (sym c.transpose.ensures ∙ c.in_ok-found.was ∙ ap Ok c.in-Some.is) in
    (c.in_ok-find_from.ensures.inside [] _ _ c.next.result c.in-Some.found refl c.next.ensures.steps given, omega (arith, c.if-start.false))

pub returns-in_err-found-clause-stopped : goal.returns-in_err-found-clause-stopped
returns-in_err-found-clause-stopped c = λ err.
    let b = c.within-bounded.result in
    let made = c.in_ok-find_from.ensures in
    let bound = c.within-bounded.ensures in
    let early = handed-same c.from_residual-in_err-found.result _ _ c.from_residual-in_err-found.ensures.1 err in
    let given = given-err c.next.result _ (sym c.transpose.ensures ∙ c.in_err-found.was) ∙ ap (λ e. Some (Err e)) early in
    let (at, takes) = within-too_long _ _ _ _ _ _ c.next.result c.next.ensures.steps given b c.args.text.now made.program made.over made.turns made.steps in
    all-too_long c.args.regex.now b c.args.steps bound.compiled bound.steps c.args.text.now at takes
