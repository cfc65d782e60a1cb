-- One match after another: what a search has still to find, and what one step of it gives.
use Rattle.std.specs.Prelude.{◌≡◌, ℕ, ◌+◌, List, [], ◌∷◌, Option, Some, None, Result, Ok, Err}
use Rattle.regress_meaning.specs.Matches.{Item}
use Rattle.regress_front_core.specs.declared.error.Error.{Error}
use Rattle.regress_front_core.specs.declared.error.Error.TheVariants.{OutOfMemory}
use Rattle.regress_match.specs.declared.found.Match.{Match}
use Rattle.regress_match.specs.declared.matches.Matches.{Matches}
use Rattle.regress_match.specs.Views.{item_of}

-- what finds the matches that an iterator yields
abbrev pub producer_of : {P Position : Type 0} → Matches P Position → P
producer_of ms = ms.producer

-- where the next search begins, and none where the iterator has ended
abbrev pub position_of : {P Position : Type 0} → Matches P Position → Option Position
position_of ms = ms.position

-- the iterator has ended
abbrev pub HasEnded : {P Position : Type 0} → Matches P Position → Type 0
HasEnded ms = position_of ms ≡ None

-- the items from a position on, and none without a position
abbrev pub coming_on : {P : Type 0} → (P → List Item) → Option P → List Item
coming_on items None = []
coming_on items (Some position) = items position

-- how many steps there may be from a position on, and none without a position
abbrev pub steps_on : {P : Type 0} → (P → ℕ) → Option P → ℕ
steps_on left None = 0
steps_on left (Some position) = left position + 1

-- A search from a position gave this, and goes on at the next position, if any: the first of the items, a match of this search,
-- before the others; or nothing where there was none.
abbrev pub Finds : {P : Type 0} → (P → List Item) → (Match → Type 0) → P → Option Match → Option P → Type 0
Finds items IsOfSearch position None next = (items position ≡ []) × (next ≡ None)
Finds items IsOfSearch position (Some m) next = (items position ≡ item_of m ∷ coming_on items next) × IsOfSearch m

-- what a step gave, from the items that were coming to those that still are
abbrev pub GivesFirst : (Match → Type 0) → List Item → Option (Result Match Error) → List Item → Type 0
GivesFirst IsOfSearch before None after = (before ≡ []) × (after ≡ [])
GivesFirst IsOfSearch before (Some (Ok m)) after = (before ≡ item_of m ∷ after) × IsOfSearch m
GivesFirst IsOfSearch before (Some (Err e)) after = (e ≡ OutOfMemory) × (after ≡ [])

-- the fact holds where a step gave no match
abbrev pub UnlessFound : Option (Result Match Error) → Type 0 → Type 0
UnlessFound None Q = Q
UnlessFound (Some (Ok m)) Q = Unit {0}
UnlessFound (Some (Err e)) Q = Q

-- A step of an iterator over matches. It gives the first of the items that were coming, or a refusal, or nothing where none
-- was coming. With a refusal and with nothing it has ended, and one that has ended gives nothing.
pub record GivesMatch {S : Type 0} (coming : S → List Item) (HasEnded : S → Type 0) (IsOfSearch : Match → Type 0)
    (old : S) (r : Option (Result Match Error)) (new : S) : Type 0 where
  pub first : GivesFirst IsOfSearch (coming old) r (coming new)
  pub ends : UnlessFound r (HasEnded new)
  pub ended : HasEnded old → r ≡ None
