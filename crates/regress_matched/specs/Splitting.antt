-- The parts that an iterator over a text has still to yield.
use Rattle.std.specs.Prelude.{◌≡◌, ℕ, zero, suc, List, [], ◌∷◌, take, Option, Some, None, Result, Ok, Err}
use Rattle.std.specs.Borrow.{Bor}
use Rattle.regress_meaning.specs.Matches.{Item}
use Rattle.regress_meaning.specs.Parts.{parts_from}
use Rattle.regress_match.specs.declared.found.Match.{Match}
use Rattle.regress_matched.specs.declared.splitting.Split.{Split}
use Rattle.regress_matched.specs.declared.splitting.SplitN.{SplitN}

-- the parts of a text from an offset on, and none without an offset
abbrev pub parts_on : List ℕ → Option ℕ → List Item → List (List ℕ)
parts_on text None items = []
parts_on text (Some at) items = parts_from text at items

-- the same with at most so many items between them, and none where not one part is asked for
abbrev pub first_parts_on : ℕ → List ℕ → Option ℕ → List Item → List (List ℕ)
first_parts_on zero text at items = []
first_parts_on (suc n) text at items = parts_on text at (take n items)

-- what a step gave, from the parts that were coming to those that still are; behind an error none is
abbrev pub GivesFirstPart : {E : Type 0} → List (List ℕ) → Option (Result (Bor (List ℕ)) E) → List (List ℕ) → Type 0
GivesFirstPart before None after = (before ≡ []) × (after ≡ [])
GivesFirstPart before (Some (Ok part)) after = before ≡ part.now ∷ after
GivesFirstPart before (Some (Err e)) after = after ≡ []

-- A step gives the first of the parts that were coming, or an error, or nothing where none was coming. Behind an error none is
-- coming, and where none is coming it gives nothing.
pub record GivesPart {S E : Type 0} (left : S → List (List ℕ)) (old : S) (r : Option (Result (Bor (List ℕ)) E)) (new : S) : Type 0 where
  pub first : GivesFirstPart (left old) r (left new)
  pub ended : left old ≡ [] → r ≡ None

-- What the matches gave where a step gave this: the match behind a part, if it is not the last, and the error.
abbrev pub GivesBy : {M E : Type 0} → (M → Option (Result Match E) → M → Type 0) → M → Option (Result (Bor (List ℕ)) E) → M → Option ℕ → Type 0
GivesBy gives old (Some (Err e)) new behind = gives old (Some (Err e)) new
GivesBy gives old (Some (Ok part)) new (Some at) = (m : Match) × gives old (Some (Ok m)) new
GivesBy gives old _ new _ = Unit {0}

-- the parts still to come
abbrev pub parts_left : {M E : Type 0} {g h : _} → (M → List Item) → Split M E g h → List (List ℕ)
parts_left coming s = parts_on s.source.now s.behind (coming s.matches)

-- the parts still to come, at most so many as are left of the limit
abbrev pub first_parts_left : {M E : Type 0} {g h : _} → (M → List Item) → SplitN M E g h → List (List ℕ)
first_parts_left coming s = first_parts_on s.limit s.parts.source.now s.parts.behind (coming s.parts.matches)

-- A step of an iterator over all parts: it gives the first of them, and also where no more than some items are taken, one less
-- of them behind it.
pub record GivesSplit {M E : Type 0} {g h : _} (gives : M → Option (Result Match E) → M → Type 0) (coming : M → List Item)
    (old : Split M E g h) (r : Option (Result (Bor (List ℕ)) E)) (new : Split M E g h) : Type 0 where
  pub part : GivesPart (parts_left coming) old r new
  pub limited : (n : ℕ) → GivesFirstPart (parts_on old.source.now old.behind (take (suc n) (coming old.matches))) r (parts_on new.source.now new.behind (take n (coming new.matches)))
  pub by : GivesBy gives old.matches r new.matches new.behind

-- A step of an iterator over the first parts: it gives the first of them.
pub record GivesFirstOf {M E : Type 0} {g h : _} (gives : M → Option (Result Match E) → M → Type 0) (coming : M → List Item)
    (old : SplitN M E g h) (r : Option (Result (Bor (List ℕ)) E)) (new : SplitN M E g h) : Type 0 where
  pub part : GivesPart (first_parts_left coming) old r new
  pub by : GivesBy gives old.parts.matches r new.parts.matches new.parts.behind
