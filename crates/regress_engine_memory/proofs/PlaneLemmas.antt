-- Planes of bits: one more plane, and one more bit.
use Rattle.std.specs.Prelude.{slice_get, slice_set}
use Rattle.std.specs.List.{list_all}
use Rattle.std.proofs.Common.{◌≡◌, ℕ, zero, suc, ◌+◌, ◌<◌, ◌||◌, ◌==◌, ◌⊎◌, inl, inr, Bool, true, false, List, [], ◌∷◌, ◌++◌, length, get_or, Some, refl, sym, ap, ◌∙◌, subst, arith}
use Rattle.std.proofs.lemmas.Bool.{cases_eq, or_cases, eqb-true, true≢false}
use Rattle.std.proofs.lemmas.Option.{slice_get_within}
use Rattle.regress_meaning.specs.Inputs.{Input}
use Rattle.regress_meaning.specs.Text.{holds}
use Rattle.regress_engine_input.specs.Views.{direction_of}
use Rattle.regress_engine_insn.specs.Instructions.{Program}
use Rattle.regress_engine_undo.specs.declared.undo.Spot.{Spot}
use Rattle.regress_engine_memory.specs.BitViews.{has}
use Rattle.regress_engine_memory.specs.Deciding.{Table, calm_at, flow_of, live_at}
use Rattle.regress_engine_memory.specs.Held.{ExitsFailWith, FailsHere, FailsIfFree, FailsWith, key_at}
use Rattle.regress_engine_memory.specs.Keys.{HaveKey, is_fresh}
use Rattle.regress_engine_memory.specs.Planes.{FailsAsTold, FailsIn, IsPlaneOf, KnownIn, key_in}
use Rattle.regress_engine_memory.specs.Remembered.{class_in, keyed_of}
use Rattle.regress_engine_memory.specs.TableViews.{table_of}
use Rattle.regress_engine_runs.specs.Runs.{room}
use Rattle.regress_engine_memory.specs.Under.{HasMoved}
use Rattle.regress_engine_memory.specs.declared.bits.Bits.{Bits}
use Rattle.regress_engine_memory.specs.declared.failures.Plane.{Plane}
use Rattle.regress_engine_memory.specs.declared.flow.FlowTable.{FlowTable}
use Rattle.regress_engine_memory.proofs.Exits.{exits-same}

-- ---- lists

set-same : (xs : List Plane) (y : Plane) (k : ℕ) → k < length xs → slice_get (slice_set xs k y) k ≡ Some y
set-same [] y k within = absurd (omega (arith, within))
set-same (x ∷ xs) y zero within = refl
set-same (x ∷ xs) y (suc k) within = set-same xs y k (omega (arith, within))

set-other : (xs : List Plane) (y : Plane) (k j : ℕ) → (j ≡ k → ⊥) → slice_get (slice_set xs k y) j ≡ slice_get xs j
set-other [] y k j other = refl
set-other (x ∷ xs) y zero zero other = absurd (other refl)
set-other (x ∷ xs) y zero (suc j) other = refl
set-other (x ∷ xs) y (suc k) zero other = refl
set-other (x ∷ xs) y (suc k) (suc j) other = set-other xs y k j (λ e. other (ap suc e))

pub last-there : (xs : List Plane) (y : Plane) → slice_get (xs ++ y ∷ []) (length xs) ≡ Some y
last-there [] y = refl
last-there (x ∷ xs) y = last-there xs y

more-there : (xs : List Plane) (y z : Plane) (j : ℕ) → slice_get (xs ++ y ∷ []) j ≡ Some z → (slice_get xs j ≡ Some z) ⊎ (y ≡ z)
more-there [] y z zero e = inr (cc e)
more-there [] y z (suc j) e = absurd (cc e)
more-there (x ∷ xs) y z zero e = inl e
more-there (x ∷ xs) y z (suc j) e = more-there xs y z j e

-- ---- what is known

module _ (program : Program) (input : Input) (t : Table) where
  -- a plane of which no bit is set adds nothing
  pub known-more : (planes : List Plane) (p : Plane) → ((n : ℕ) → has p.offsets n ≡ false) → KnownIn program input t planes → KnownIn program input t (planes ++ p ∷ [])
  known-more planes p none known k o q here set = by_place (more-there planes p q k here)
    where
      by_place : (slice_get planes k ≡ Some q) ⊎ (p ≡ q) → FailsIn program input t q o
      by_place (inl there) = known k o q there set
      by_place (inr same) = absurd (true≢false (sym set ∙ ap (λ (x : Plane). has x.offsets o) (sym same) ∙ none o))

  -- the bits of a plane are others, and those that are set tell what is so
  known-written : (planes : List Plane) (k : ℕ) (p : Plane) (bits : Bits) → slice_get planes k ≡ Some p → ((o : ℕ) → has bits o ≡ true → FailsIn program input t p o)
      → KnownIn program input t planes → KnownIn program input t (slice_set planes k (record p { offsets = bits }))
  known-written planes k p bits there fails known j o q here set = by_place (cases_eq j k)
    where
      new : Plane
      new = record p { offsets = bits }

      by_place : (j ≡ k) ⊎ (j ≡ k → ⊥) → FailsIn program input t q o
      by_place (inl same) =
          let found : Some new ≡ Some q = sym (set-same planes new k (slice_get_within planes k p there)) ∙ ap (slice_get (slice_set planes k new)) (sym same) ∙ here in
          let is : new ≡ q = cc in
          let bit : has bits o ≡ true = ap (λ (x : Plane). has x.offsets o) is ∙ set in
          subst (λ (x : Plane). FailsIn program input t x o) is (fails o bit)
      by_place (inr other) = known j o q (sym (set-other planes new k j other) ∙ here) set

  -- one is set of what fails
  pub known-set : (planes : List Plane) (k offset : ℕ) (p : Plane) (bits : Bits) → slice_get planes k ≡ Some p → ((n : ℕ) → has bits n ≡ (has p.offsets n || offset == n))
      → KnownIn program input t planes → FailsIn program input t p offset → KnownIn program input t (slice_set planes k (record p { offsets = bits }))
  known-set planes k offset p bits there adds known fails =
      known-written planes k p bits there (λ o set. in_it o (or_cases (has p.offsets o) (offset == o) (sym (adds o) ∙ set))) known
    where
      in_it : (o : ℕ) → (has p.offsets o ≡ true) ⊎ ((offset == o) ≡ true) → FailsIn program input t p o
      in_it o (inl old) = known k o p there old
      in_it o (inr is) = subst (λ n. FailsIn program input t p n) (eqb-true offset o is) fails

  -- or none is
  pub known-same : (planes : List Plane) (k : ℕ) (p : Plane) (bits : Bits) → slice_get planes k ≡ Some p → ((n : ℕ) → has bits n ≡ has p.offsets n)
      → KnownIn program input t planes → KnownIn program input t (slice_set planes k (record p { offsets = bits }))
  known-same planes k p bits there same known = known-written planes k p bits there (λ o set. known k o p there (sym (same o) ∙ set)) known

  -- where table and planes are the same
  pub known-there : (u : Table) (planes others : List Plane) → u ≡ t → others ≡ planes → KnownIn program input t planes → KnownIn program input u others
  known-there u planes others table same known = subst (λ x. KnownIn program input x others) (sym table) (subst (KnownIn program input t) (sym same) known)

-- a test is passed by all of no numbers
all-of_none : (test : ℕ → Bool) (ids : List ℕ) → length ids ≡ 0 → list_all test ids ≡ true
all-of_none test [] none = refl
all-of_none test (x ∷ ids) none = absurd (omega (arith, none))

-- the key of a plane that is that of a spot
key-of_spot : (t : Table) (s : Spot) (p : Plane) → p.at ≡ s.at → p.forward ≡ s.forward → key_in t p s.offset ≡ key_at s (class_in (live_at t s.at) p.classes.items)
key-of_spot t s p at turned =
    (λ i. record { dir = direction_of (turned i); at = at i; offset = s.offset; classes = class_in (live_at t (at i)) p.classes.items })

-- The plane of a spot is found, and what it tells is so: then that is told of the spot, and the loops that are held have its classes.
pub told-of_spot : (program : Program) (input : Input) (t : Table) (s : Spot) (further : Bool) (loops : List (ℕ × ℕ)) (p : Plane) → IsPlaneOf t s further loops p → FailsIn program input t p s.offset
    → (classes : ℕ → ℕ) × FailsAsTold program input (keyed_of t) further p.fresh.items (key_at s classes) × HaveKey (keyed_of t) (key_at s classes) loops
told-of_spot program input t s further loops p is fails = (
  class_in (live_at t s.at) p.classes.items,
  subst (FailsAsTold program input (keyed_of t) further p.fresh.items) (key-of_spot t s p is.0 is.1)
      (subst (λ b. FailsAsTold program input (keyed_of t) b p.fresh.items (key_in t p s.offset)) is.3 fails),
  is.2,
)

-- Where no loop is told to be fresh there, none has an answer with whatever loops that have the classes.
pub told-settled : (program : Program) (input : Input) (t : Table) (s : Spot) (loops : List (ℕ × ℕ)) (p : Plane) → IsPlaneOf t s false loops p → length p.fresh.items ≡ 0
    → FailsIn program input t p s.offset → FailsWith program input (keyed_of t) s loops
told-settled program input t s loops p is none fails =
    let (classes, known, has) = told-of_spot program input t s false loops p is fails in
    (classes, (λ ls gs count have. known ls gs count have (all-of_none (λ id. is_fresh (flow_of t) id s.offset (get_or ls id (0, 0))) p.fresh.items none)), has)

-- And where some are, with whatever loops of which these are.
pub told-here : (program : Program) (input : Input) (t : Table) (s : Spot) (loops : List (ℕ × ℕ)) (p : Plane) → IsPlaneOf t s false loops p
    → FailsIn program input t p s.offset → FailsHere program input (keyed_of t) s loops
told-here program input t s loops p is fails =
    let (classes, known, has) = told-of_spot program input t s false loops p is fails in
    (classes, p.fresh.items, known, has, is.4)

-- And the other way round: what is told of a spot with the classes of its plane that plane tells.
in-plane : (program : Program) (input : Input) (t : Table) (s : Spot) (further : Bool) (loops : List (ℕ × ℕ)) (p : Plane) → IsPlaneOf t s further loops p
    → FailsAsTold program input (keyed_of t) further p.fresh.items (key_at s (class_in (live_at t s.at) p.classes.items)) → FailsIn program input t p s.offset
in-plane program input t s further loops p is fails =
    subst (λ b. FailsAsTold program input (keyed_of t) b p.fresh.items (key_in t p s.offset)) (sym is.3)
    (subst (FailsAsTold program input (keyed_of t) further p.fresh.items) (sym (key-of_spot t s p is.0 is.1)) fails)

-- It is so with the table as it is now, and of the plane that stands in a place.
pub found-fails : (program : Program) (input : Input) (old new : FlowTable) (s : Spot) (further : Bool) (loops : List (ℕ × ℕ)) (planes : List Plane) (k : ℕ) (p : Plane) → new ≡ old
    → slice_get planes k ≡ Some p → IsPlaneOf (table_of new) s further loops p → (IsPlaneOf (table_of old) s further loops p → FailsIn program input (table_of old) p s.offset)
    → (q : Plane) → slice_get planes k ≡ Some q → FailsIn program input (table_of new) q s.offset
found-fails program input old new s further loops planes k p table there is fails q here =
    let e : Some p ≡ Some q = sym there ∙ here in
    let same : p ≡ q = cc in
    subst (λ (x : FlowTable). FailsIn program input (table_of x) q s.offset) (sym table)
    (subst (λ (x : Plane). FailsIn program input (table_of old) x s.offset) same (fails (subst (λ (x : FlowTable). IsPlaneOf (table_of x) s further loops p) table is)))

-- What fails if loops are free fails at the plane of a spot, where they are.
pub plane-fails : (program : Program) (input : Input) (t : Table) (last : ℕ) (s : Spot) (loops : List (ℕ × ℕ)) (p : Plane) → IsPlaneOf t s false loops p → calm_at t s.at ≡ true
    → ((id : ℕ) → holds (live_at t s.at) id ≡ true → holds p.fresh.items id ≡ false → HasMoved (flow_of t) last id (direction_of s.forward) s.offset (get_or loops id (0, 0)))
    → ((id : ℕ) → holds (live_at t s.at) id ≡ true → (keyed_of t).counted id ≡ false → (get_or loops id (0, 0)).0 + 1 + room last (direction_of s.forward) s.offset < (flow_of t).most id)
    → FailsIfFree program input (keyed_of t) last s loops → FailsIn program input t p s.offset
plane-fails program input t last s loops p is calm moved more fails =
    in-plane program input t s false loops p is
    (fails calm (class_in (live_at t s.at) p.classes.items) p.fresh.items
    (record { key = λ id l. is.2 id l; begun = is.4; moved = λ id l e. moved id l e; room = λ id l c. more id l c }))

-- that of exits is told of them all
pub exits-fail : (program : Program) (input : Input) (t : Table) (s : Spot) (loops : List (ℕ × ℕ)) (p : Plane) → IsPlaneOf t s true loops p
    → ExitsFailWith program input (keyed_of t) s loops → FailsIn program input t p s.offset
exits-fail program input t s loops p is (classes, fails, has) =
    let mine : ℕ → ℕ = class_in (live_at t s.at) p.classes.items in
    in-plane program input t s true loops p is (λ i here. exits-same program input (keyed_of t) (key_at s classes) mine (λ id l. sym (has id l) ∙ is.2 id l) i (fails i here))
