-- The parts that an iterator over a text has still to yield.
use Rattle.std.specs.Prelude.{◌≡◌, ℕ, suc, List, [], ◌∷◌, take, Option, Some, None, Result, Ok, Err}
use Rattle.std.specs.Borrow.{Bor}
use Rattle.regress_front_core.specs.declared.error.Error.{Error}
use Rattle.regress_front_core.specs.declared.error.Error.TheVariants.{OutOfMemory}
use Rattle.regress_matched.specs.Splitting.{parts_on, first_parts_on}
use Rattle.regress.specs.declared.splitting.Split.{Split}
use Rattle.regress.specs.declared.splitting.SplitN.{SplitN}
use Rattle.regress.specs.Coming.{coming}

-- the parts still to come
abbrev pub parts_left : Split → List (List ℕ)
parts_left s = parts_on s.source.now s.behind (coming s.matches)

-- the parts still to come, at most so many as are left of the limit
abbrev pub first_parts_left : SplitN → List (List ℕ)
first_parts_left s = first_parts_on s.limit s.parts.source.now s.parts.behind (coming s.parts.matches)

-- what a step gave, from the parts that were coming to those that still are
abbrev pub GivesFirstPart : List (List ℕ) → Option (Result (Bor (List ℕ)) Error) → List (List ℕ) → Type 0
GivesFirstPart before None after = (before ≡ []) × (after ≡ [])
GivesFirstPart before (Some (Ok part)) after = before ≡ part.now ∷ after
GivesFirstPart before (Some (Err e)) after = (e ≡ OutOfMemory) × (after ≡ [])

-- A step gives the first of the parts that were coming, or a refusal, or nothing where none was coming. Behind a refusal none
-- is coming, and where none is coming it gives nothing.
pub record GivesPart {S : Type 0} (left : S → List (List ℕ)) (old : S) (r : Option (Result (Bor (List ℕ)) Error)) (new : S) : Type 0 where
  pub first : GivesFirstPart (left old) r (left new)
  pub ended : left old ≡ [] → r ≡ None

-- A step of an iterator over all parts: it gives the first of them, and also where no more than some items are taken, one less
-- of them behind it.
pub record GivesSplit (old : Split) (r : Option (Result (Bor (List ℕ)) Error)) (new : Split) : Type 0 where
  pub gives : GivesPart parts_left old r new
  pub limited : (n : ℕ) → GivesFirstPart (parts_on old.source.now old.behind (take (suc n) (coming old.matches))) r (parts_on new.source.now new.behind (take n (coming new.matches)))
