-- What a step of an executor gives, told as a step of an iterator over it.
use Rattle.std.specs.Prelude.{MatchResult, IsErrAnd}
use Rattle.std.proofs.Common.{◌≡◌, ℕ, ◌<◌, true, List, [], ◌∷◌, Option, Some, None, Result, Ok, Err, sym, ap, ◌∙◌, subst}
use Rattle.regress_meaning.specs.Matches.{Item}
use Rattle.regress_front_core.specs.declared.error.Error.{Error}
use Rattle.regress_front_core.specs.declared.error.Error.TheVariants.{OutOfMemory}
use Rattle.regress_match.specs.declared.found.Match.{Match}
use Rattle.regress_match.specs.Views.{item_of}
use Rattle.regress_match.specs.Iterating.{GivesFirst, UnlessFound, coming_on, steps_on}
use Rattle.regress_match.specs.TextRanges.{IsMatchIn}
use Rattle.regress_matched.specs.Giving.{GivesFound}
use Rattle.regress_engine_input.specs.Views.{AreOfKind, are_bytes}
use Rattle.regress_engine_code.specs.Standing.{names_of}
use Rattle.regress_engine_search.specs.Search.{Search, IsMatchOf, Steps, items_from, places_behind}
use Rattle.regress_engine_search.proofs.ProducerLemmas.{match-in_bytes}

-- an error is told as one of memory
abbrev pub IsTold : {T E : Type 0} → Result T E → Result T Error → Type 0
IsTold x r = MatchResult x (λ m. r ≡ Ok m) (λ _. IsErrAnd r (λ e. e ≡ OutOfMemory))

module _ (s : Search) {after : Search} (kept : after ≡ s) (before next : Option ℕ) where
  -- nothing is given where none was coming, and none is
  pub step-none : (r : Option (Result Match Error)) → r ≡ None → (coming_on (items_from s) before ≡ []) × (next ≡ None)
      → GivesFirst (IsMatchOf s) (coming_on (items_from s) before) r (coming_on (items_from after) next)
  step-none r is (none, ended) =
      subst (λ o. GivesFirst (IsMatchOf s) (coming_on (items_from s) before) o (coming_on (items_from after) next)) (sym is) (none, ap (coming_on (items_from after)) ended)

  -- what is given is the first of the items that were coming, or that memory is refused
  pub step-first : {E : Type 0} (x : Result Match E) (r : Result Match Error) → Steps s before (Some x) next → IsTold x r
      → GivesFirst (IsMatchOf s) (coming_on (items_from s) before) (Some r) (coming_on (items_from after) next)
  step-first (Ok m) r (items, of) told =
      subst (λ o. GivesFirst (IsMatchOf s) (coming_on (items_from s) before) (Some o) (coming_on (items_from after) next)) (sym told)
      (items ∙ ap (λ (x : Search). item_of m ∷ coming_on (items_from x) next) (sym kept), of)
  step-first (Err e) (Ok m) ended told = absurd told
  step-first (Err e) (Err f) ended told = (told, ap (coming_on (items_from after)) ended)

  -- with an error it has ended
  pub step-ends : {E : Type 0} (x : Result Match E) (r : Result Match Error) → Steps s before (Some x) next → IsTold x r → UnlessFound (Some r) (next ≡ None)
  step-ends (Ok m) r steps told = subst (λ o. UnlessFound (Some o) (next ≡ None)) (sym told) tt
  step-ends (Err e) (Ok m) ended told = absurd told
  step-ends (Err e) (Err f) ended told = ended

  -- fewer steps are left behind one that gives anything
  pub step-nearer : steps_on (places_behind s) next < steps_on (places_behind s) before → steps_on (places_behind after) next < steps_on (places_behind s) before
  step-nearer less = subst (λ (x : Search). steps_on (places_behind x) next < steps_on (places_behind s) before) (sym kept) less

-- over bytes a match that is given lies in the text
pub given-in_text : (s : Search) → are_bytes s.view.kind ≡ true → AreOfKind s.view.kind s.view.units → (before : List Item) (r : Option (Result Match Error)) (after : List Item)
    → GivesFirst (IsMatchOf s) before r after → GivesFirst (IsMatchIn s.view.units (names_of s.compiled)) before r after
given-in_text s are all before None after given = given
given-in_text s are all before (Some (Ok m)) after (items, of) = (items, (match-in_bytes s.view.kind s.view.units are all m of.0, of.1))
given-in_text s are all before (Some (Err e)) after given = given

-- what is given is the first of the items that were coming, whatever an error says
pub given-found : (IsOfSearch : Match → Type 0) (before : List Item) (r : Option (Result Match Error)) (after : List Item)
    → GivesFirst IsOfSearch before r after → GivesFound IsOfSearch before r after
given-found IsOfSearch before None after given = given
given-found IsOfSearch before (Some (Ok m)) after given = given
given-found IsOfSearch before (Some (Err e)) after given = given.1
