use Rattle.std.specs.Option.{option_transpose}
use Rattle.std.proofs.Common.{◌≡◌, ℕ, List, Option, None, Some, Result, Ok, Err, IfOk, IfSome, arith, subst, ◌∙◌}
use Rattle.regress_meaning.specs.Matches.{Item}
use Rattle.regress_front_core.specs.declared.error.Error.{Error}
use Rattle.regress_match.specs.declared.found.Match.{Match}
use Rattle.regress_match.specs.Iterating.{GivesFirst}
use Rattle.regress_match.specs.TextRanges.{IsMatchIn, LiesInText}
use Rattle.esgrep_patterns.proofs.HitLemmas.{given-hit, later-hit}
use Rattle.esgrep_patterns.proofs.patterns.first_from.Goals as goal

pub returns-in_default-clause-found : goal.returns-in_default-clause-found
returns-in_default-clause-found c = λ s seeks place begins.
    let made = c.in_ok-find_from.ensures in
    let given = given-hit c.args.text.now place s _ _ _ c.next.result c.next.ensures.steps.2.first
    (made.matches s.table s.options s.pattern seeks.0 place begins) (λ m is. is.1 ∙ made.named ∙ seeks.1) in
    rw (← c.transpose.ensures, c.in_ok-found.was, c.in_default.is) at given

pub returns-then-start-clause-found : goal.returns-then-start-clause-found
returns-then-start-clause-found c = λ s seeks place begins.
    let text = c.args.text.now in
    let made = c.in_ok-find_from.ensures in
    let given = given-hit text place s _ _ _ c.next.result c.next.ensures.steps.2.first
    (made.matches s.table s.options s.pattern seeks.0 place begins) (λ m is. is.1 ∙ made.named ∙ seeks.1) in
    let here = rw (← c.transpose.ensures, c.in_ok-found.was, c.in-Some.is) at given in
    let later = later-hit text place s c.args.start begins c.in-Some.found here in
    absurd (omega (arith, later, c.if-start.true))

pub returns-clause-found : goal.returns-clause-found
returns-clause-found c = λ s seeks place begins.
    let made = c.in_ok-find_from.ensures in
    let given = given-hit c.args.text.now place s _ _ _ c.next.result c.next.ensures.steps.2.first
    (made.matches s.table s.options s.pattern seeks.0 place begins) (λ m is. is.1 ∙ made.named ∙ seeks.1) in
    rw (← c.transpose.ensures, c.in_ok-found.was, c.in-Some.is) at given

-- what a step gave lies in the text
lies-given : (bytes text : List ℕ) → text ≡ bytes → (names : List (List ℕ)) (before after : List Item) (given : Option (Result Match Error))
    → GivesFirst (IsMatchIn text names) before given after → IfOk (option_transpose given) (λ found. IfSome found (LiesInText bytes))
lies-given bytes text same names before after None first = tt
lies-given bytes text same names before after (Some (Ok m)) first = subst (λ (t : List ℕ). LiesInText t m) same first.1.0
lies-given bytes text same names before after (Some (Err e)) first = tt

pub returns-clause-inside : goal.returns-clause-inside
returns-clause-inside c =
    let lies = lies-given c.args.text.now _ c.in_ok-find_from.ensures.over _ _ _ c.next.result c.next.ensures.steps.2.first in
    let here : LiesInText c.args.text.now c.in-Some.found = rw (← c.transpose.ensures, c.in_ok-found.was, c.in-Some.is) at lies in
    let least = c.if-start.false in
    let start = c.start.ensures in
    (here, omega (arith, least, start))
