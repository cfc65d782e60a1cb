-- What gives the matches in a text, one after another: what a call gives, and with what error calls end.
use Rattle.std.specs.Prelude.{◌≡◌, ℕ, List, [], ◌∷◌, Option, Some, None, Result, Ok, Err, map}
use Rattle.std.specs.Iterator.{Yields}
use Rattle.regress_meaning.specs.Matches.{Item}
use Rattle.regress_match.specs.declared.found.Match.{Match}
use Rattle.regress_match.specs.TextRanges.{IsMatchIn}
use Rattle.regress_match.specs.Views.{item_of}

-- What a call gave, from the items that were coming to those that still are: the first of them, before the others; nothing where
-- none was coming; or an error, behind which nothing is.
abbrev pub GivesFound : {E : Type 0} → (Match → Type 0) → List Item → Option (Result Match E) → List Item → Type 0
GivesFound IsOfSearch before None after = (before ≡ []) × (after ≡ [])
GivesFound IsOfSearch before (Some (Ok m)) after = (before ≡ item_of m ∷ after) × IsOfSearch m
GivesFound IsOfSearch before (Some (Err e)) after = after ≡ []

-- A call gave the first of the items that were coming in a text, and goes on in the same text, for the same pattern.
pub record GivesInText {S E : Type 0} (searched : S → List ℕ) (names : S → List (List ℕ)) (coming : S → List Item)
    (old : S) (r : Option (Result Match E)) (new : S) : Type 0 where
  pub over : searched new ≡ searched old
  pub named : names new ≡ names old
  pub first : GivesFound (IsMatchIn (searched old) (names old)) (coming old) r (coming new)

module _ {S E : Type 0} (gives : S → Option (Result Match E) → S → Type 0) where
  -- calls from one state to another gave these matches
  abbrev pub GivesMatches : S → List Match → S → Type 0
  GivesMatches from given to = Yields gives from (map Ok given) to

  -- a call errs so, behind calls that gave these matches
  abbrev pub ErrsBehind : S → List Match → E → Type 0
  ErrsBehind from given e = (old new : S) × GivesMatches from given old × gives old (Some (Err e)) new

  -- a call errs so, behind calls that gave matches
  abbrev pub Errs : S → E → Type 0
  Errs from e = (given : List Match) × ErrsBehind from given e

-- wherever calls from a state lead, one errs so only where this holds
abbrev pub ErrsOnlyIf : {S A E : Type 0} → (S → Option (Result A E) → S → Type 0) → E → Type 0 → S → Type 0
ErrsOnlyIf {S} {A} {E} gives e P from = (given : List (Result A E)) (old new : S) → Yields gives from given old → gives old (Some (Err e)) new → P
