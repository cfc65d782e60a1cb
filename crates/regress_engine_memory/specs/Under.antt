-- States of which one may do all that the other may.
use Rattle.std.specs.Prelude.{◌≡◌, ℕ, ◌+◌, ◌-◌, ◌<◌, ◌≤◌, ◌⊎◌, true, List, [], ◌∷◌, length, get_or}
use Rattle.std.specs.List.{AllByRecursion}
use Rattle.regress_meaning.specs.Meaning.{Direction, Forward, Backward}
use Rattle.regress_engine_runs.specs.States.{Whole}
use Rattle.regress_engine_runs.specs.Runs.{room}
use Rattle.regress_engine_runs.specs.UndoStack.{IsPast}
use Rattle.regress_engine_memory.specs.Flow.{Flow}

-- the second offset is past the first, where the first is before the last one
abbrev pub IsFurther : (last : ℕ) → Direction → ℕ → ℕ → Type 0
IsFurther last Forward o q = (o < q) × (o < last)
IsFurther last Backward o q = q < o

-- or it is the same
abbrev pub IsOnward : (last : ℕ) → Direction → ℕ → ℕ → Type 0
IsOnward last dir o q = (q ≡ o) ⊎ IsFurther last dir o q

-- each of some states is there or further
abbrev pub AreOnward : (last : ℕ) → Direction → ℕ → List Whole → Type 0
AreOnward last dir o us = AllByRecursion (λ u. IsOnward last dir o u.offset) us

module _ (flow : Flow) (last : ℕ) (id : ℕ) (dir : Direction) (o : ℕ) where
  -- The iteration that is under way may end here and further on: it has taken something, or is not past the least number.
  abbrev pub HasMoved : ℕ × ℕ → Type 0
  HasMoved y = (y.0 ≤ flow.least id) ⊎ IsPast dir y.1 o

  -- of both as many iterations have begun, and of the second the one that is under way may end
  pub record IsEven (x y : ℕ × ℕ) : Type 0 where
    pub counts : x.0 ≡ y.0
    pub moved : HasMoved y

  -- Of both enough iterations have begun, of the second more may begin as long as there is text, and the one that is under way may end.
  pub record IsLoose (x y : ℕ × ℕ) : Type 0 where
    pub begun : flow.least id ≤ x.0
    pub enough : flow.least id ≤ y.0
    pub more : y.0 + 1 + room last dir o < flow.most id
    pub moved : HasMoved y

  -- of both an iteration past the least number has begun here, so that neither may end here
  pub record IsFresh (x y : ℕ × ℕ) : Type 0 where
    pub begun : flow.least id < x.0
    pub here : x.1 ≡ o
    pub enough : flow.least id ≤ y.0
    pub more : y.0 + room last dir o < flow.most id
    pub entered : y.1 ≡ o

  -- Where the first data allow something, the second do.
  abbrev pub Covers : ℕ × ℕ → ℕ × ℕ → Type 0
  Covers x y = (x ≡ y) ⊎ (IsEven x y ⊎ (IsLoose x y ⊎ IsFresh x y))

-- The second state may do all that the first one may.
pub record IsUnder (flow : Flow) (last : ℕ) (dir : Direction) (s t : Whole) : Type 0 where
  pub calm : flow.calm t.at ≡ true
  pub at : s.at ≡ t.at
  pub offset : s.offset ≡ t.offset
  pub size : length s.loops ≡ length t.loops
  pub loops : (id : ℕ) → flow.live t.at id ≡ true → Covers flow last id dir t.offset (get_or s.loops id (0, 0)) (get_or t.loops id (0, 0))

-- Each of the first states is under one of the second, in their order.
abbrev pub AreUnder : Flow → (last : ℕ) → Direction → List Whole → List Whole → Type 0
AreUnder flow last dir [] [] = Unit {0}
AreUnder flow last dir (s ∷ ss) [] = ⊥
AreUnder flow last dir [] (t ∷ ts) = Unit {0}
AreUnder flow last dir (s ∷ ss) (t ∷ ts) = (IsUnder flow last dir s t × AreUnder flow last dir ss ts) ⊎ AreUnder flow last dir (s ∷ ss) ts
