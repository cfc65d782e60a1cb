-- What is known of the parts of an `if` or of a word on `Option`, where its value is known. What an `if` gives where its
-- test is known is std's `cond-true` and `cond-false`; of `&&`, `||` and `not` it is std's `and_parts` and its like.
use Rattle.std.specs.Prelude.{if◌then◌else◌}
use Rattle.std.proofs.Common.{◌≡◌, ℕ, Bool, true, false, ◌==◌, ◌⊎◌, inl, inr, List, [], ◌∷◌, Option, Some, None, option_and_then, option_map, refl, ap, subst, eqb-true}
use Rattle.std.proofs.lemmas.Option.{same_Some}
use Rattle.std.specs.Option.{option_or}
use Rattle.regress_meaning.specs.Text.{is_at}
use Rattle.regress_meaning.specs.Tokens.{guard}

-- an `if` gives what one of its branches gives
pub if-cases : {A : Type 0} (b : Bool) {x y z : A} → (if b then x else y) ≡ z → (b ≡ true) × (x ≡ z) ⊎ (b ≡ false) × (y ≡ z)
if-cases true e = inl (refl, e)
if-cases false e = inr (refl, e)

-- the same, with what follows from each branch
pub if-both : {A : Type 0} {P : Type 0} (b : Bool) {x y z : A} → (b ≡ true → x ≡ z → P) → (b ≡ false → y ≡ z → P) → (if b then x else y) ≡ z → P
if-both true f g e = f refl e
if-both false f g e = g refl e

pub option-cases : {A : Type 0} (o : Option A) → (o ≡ None) ⊎ ((x : A) × (o ≡ Some x))
option-cases None = inl refl
option-cases (Some x) = inr (x, refl)

pub guard-some : {A : Type 0} (b : Bool) {o : Option A} {y : A} → guard b o ≡ Some y → (b ≡ true) × (o ≡ Some y)
guard-some true e = (refl, e)
guard-some false e = cc

pub and_then-some : {A B : Type 0} (f : A → Option B) (o : Option A) {y : B} → option_and_then f o ≡ Some y → (x : A) × (o ≡ Some x) × (f x ≡ Some y)
and_then-some f None e = cc
and_then-some f (Some x) e = (x, refl, e)

pub map-some : {A B : Type 0} (f : A → B) (o : Option A) {y : B} → option_map f o ≡ Some y → (x : A) × (o ≡ Some x) × (f x ≡ y)
map-some f None e = cc
map-some f (Some x) e = (x, refl, (cc))

pub is_at-eq : (k : ℕ) (t : List ℕ) → is_at (λ d. d == k) t ≡ true → (r : List ℕ) × (t ≡ k ∷ r)
is_at-eq k [] e = cc
is_at-eq k (c ∷ t) e = (t, ap (λ d. d ∷ t) (eqb-true c k e))

-- P holds of what is given, if anything is
pub record Gives {A : Type 0} (P : A → Type 0) (o : Option A) : Type 0 where
  pub holds : {x : A} → o ≡ Some x → P x

pub gives-none : {A : Type 0} {P : A → Type 0} → Gives P None
gives-none = record { holds = λ {x} e. cc }

pub gives-some : {A : Type 0} {P : A → Type 0} {x : A} → P x → Gives P (Some x)
gives-some {P = P} {x = x} h = record { holds = λ {x = y} e. subst P (same_Some x y e) h }

pub gives-weaker : {A : Type 0} {P Q : A → Type 0} {o : Option A} → ((x : A) → P x → Q x) → Gives P o → Gives Q o
gives-weaker f h = record { holds = λ {x} e. f x (h.holds e) }

-- each branch, where its test is known
pub gives-if : {A : Type 0} {P : A → Type 0} (b : Bool) {o p : Option A} → (b ≡ true → Gives P o) → (b ≡ false → Gives P p) → Gives P (if b then o else p)
gives-if true h k = h refl
gives-if false h k = k refl

pub gives-guard : {A : Type 0} {P : A → Type 0} (b : Bool) {o : Option A} → (b ≡ true → Gives P o) → Gives P (guard b o)
gives-guard true h = h refl
gives-guard false h = gives-none

pub gives-or : {A : Type 0} {P : A → Type 0} (o : Option A) {p : Option A} → Gives P o → Gives P p → Gives P (option_or o p)
gives-or None h k = k
gives-or (Some x) h k = h

pub gives-map : {A B : Type 0} {P : A → Type 0} {Q : B → Type 0} (f : A → B) (o : Option A) → Gives P o → ((x : A) → P x → Q (f x)) → Gives Q (option_map f o)
gives-map f None h k = gives-none
gives-map f (Some x) h k = gives-some (k x (h.holds refl))

pub gives-then : {A B : Type 0} {P : A → Type 0} {Q : B → Type 0} (f : A → Option B) (o : Option A) → Gives P o → ((x : A) → P x → Gives Q (f x)) → Gives Q (option_and_then f o)
gives-then f None h k = gives-none
gives-then f (Some x) h k = k x (h.holds refl)

-- where nothing need be known of what is given
pub gives-any : {A : Type 0} (o : Option A) → Gives (λ x. Unit {0}) o
gives-any o = record { holds = λ {x} e. tt }
