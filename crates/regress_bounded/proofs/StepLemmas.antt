-- What a step of an executor with a budget gives, told as a call of an iterator over it.
use Rattle.std.specs.Prelude.{OnSome, IfErr}
use Rattle.std.proofs.Common.{◌≡◌, Bool, true, refl, ℕ, ◌<◌, List, ◌∷◌, Option, Some, None, Result, Ok, Err, IfSome, sym, ap, ◌∙◌, subst}
use Rattle.regress_match.specs.declared.found.Match.{Match}
use Rattle.regress_match.specs.Views.{item_of}
use Rattle.regress_match.specs.Iterating.{coming_on, steps_on}
use Rattle.regress_match.specs.TextRanges.{IsMatchIn}
use Rattle.regress_meaning.specs.Matches.{Item}
use Rattle.regress_engine_input.specs.Views.{AreOfKind, are_bytes}
use Rattle.regress_engine_code.specs.Standing.{names_of}
use Rattle.regress_engine_search.proofs.ProducerLemmas.{match-in_bytes}
use Rattle.regress_engine_exec.specs.declared.error.SearchError.{SearchError}
use Rattle.regress_engine_exec.specs.declared.error.SearchError.TheVariants.{TooManySteps}
use Rattle.regress_engine_exec.specs.Turned.{NeverOver}
use Rattle.regress_engine_search.specs.Search.{Search, IsMatchOf, Steps, items_from, places_behind}
use Rattle.regress_matched.specs.Giving.{GivesFound}
use Rattle.regress_bounded.specs.Coming.{UnlessFound}

module _ (s after : Search) (kept : after ≡ s) (before next : Option ℕ) where
  -- it gives the first of the items that were coming, an error, or nothing where none was
  pub step-given : (r : Option (Result Match SearchError)) → Steps s before r next
      → GivesFound (IsMatchOf s) (coming_on (items_from s) before) r (coming_on (items_from after) next)
  step-given None (none, ended) = (none, ap (coming_on (items_from after)) ended)
  step-given (Some (Ok m)) (items, of) = (items ∙ ap (λ (x : Search). item_of m ∷ coming_on (items_from x) next) (sym kept), of)
  step-given (Some (Err e)) ended = ap (coming_on (items_from after)) ended

  -- with an error and with nothing it has ended
  pub step-ends : (r : Option (Result Match SearchError)) → Steps s before r next → UnlessFound r (next ≡ None)
  step-ends None (none, ended) = ended
  step-ends (Some (Ok m)) steps = tt
  step-ends (Some (Err e)) ended = ended

  -- fewer places are left behind one that gives anything
  pub step-nearer : (r : Option (Result Match SearchError)) → IfSome r (λ _. steps_on (places_behind s) next < steps_on (places_behind s) before)
      → OnSome r (Unit {0} × Unit {0} × (steps_on (places_behind after) next < steps_on (places_behind s) before))
  step-nearer None nearer = tt
  step-nearer (Some x) nearer = (tt, tt, subst (λ (x : Search). steps_on (places_behind x) next < steps_on (places_behind s) before) (sym kept) nearer)

-- one that turns to a table never errs with too few steps
pub step-never : (turns : Bool) (r : Option (Result Match SearchError)) → IfSome r (λ given. IfErr given (NeverOver (λ e. e ≡ TooManySteps) turns)) → turns ≡ true
    → r ≡ Some (Err TooManySteps) → ⊥
step-never turns r never does is = subst (λ x. IfSome x (λ given. IfErr given (NeverOver (λ e. e ≡ TooManySteps) turns))) is never does refl

-- over bytes a match that is given lies in the text
pub given-in_text : (s : Search) → are_bytes s.view.kind ≡ true → AreOfKind s.view.kind s.view.units → (before : List Item) (r : Option (Result Match SearchError)) (after : List Item)
    → GivesFound (IsMatchOf s) before r after → GivesFound (IsMatchIn s.view.units (names_of s.compiled)) before r after
given-in_text s are all before None after given = given
given-in_text s are all before (Some (Ok m)) after (items, of) = (items, (match-in_bytes s.view.kind s.view.units are all m of.0, of.1))
given-in_text s are all before (Some (Err e)) after given = given
