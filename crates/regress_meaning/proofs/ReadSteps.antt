-- The steps of a function that reads: what is known of what an `elim` on a test gives, and what a step gives where its
-- parts are known.
use Rattle.std.proofs.Common.{◌≡◌, ℕ, Bool, true, false, ◌==◌, List, [], ◌∷◌, drop, Option, Some, None, option_and_then, option_map, refl, sym, ap, ◌∙◌, eqb-true}
use Rattle.std.proofs.lemmas.Bool.{and_parts}
use Rattle.regress_meaning.specs.Text.{is_at}
use Rattle.regress_meaning.specs.Tokens.{guard}
use Rattle.regress_meaning.specs.ReadingClass.{two_at}
use Rattle.regress_meaning.proofs.Inversion.{Gives, is_at-eq}

-- each case of an `elim` on a test, where the test is known
pub gives-test : {A : Type 0} {P : A → Type 0} (b : Bool) {o p : Option A} → (b ≡ true → Gives P o) → (b ≡ false → Gives P p)
    → Gives P (elim b [ true ↦ o | false ↦ p ])
gives-test true h k = h refl
gives-test false h k = k refl

-- an answer gives what it is
pub gives-itself : {A : Type 0} (o : Option A) → Gives (λ x. o ≡ Some x) o
gives-itself o = record { holds = λ {x} e. e }

-- The other case of the `elim` is an argument, since nothing else tells it.
pub on_true : {A : Type 0} {b : Bool} {x z : A} (y : A) → b ≡ true → x ≡ z → elim b [ true ↦ x | false ↦ y ] ≡ z
on_true {x = x} y e h = ap (λ b. elim b [ true ↦ x | false ↦ y ]) e ∙ h

pub on_false : {A : Type 0} {b : Bool} {y z : A} (x : A) → b ≡ false → y ≡ z → elim b [ true ↦ x | false ↦ y ] ≡ z
on_false {y = y} x e h = ap (λ b. elim b [ true ↦ x | false ↦ y ]) e ∙ h

pub on_some : {A B : Type 0} (f : A → Option B) {o : Option A} {x : A} {z : Option B} → o ≡ Some x → f x ≡ z → option_and_then f o ≡ z
on_some f e h = ap (option_and_then f) e ∙ h

pub on_none : {A B : Type 0} (f : A → Option B) {o : Option A} → o ≡ None → option_and_then f o ≡ None
on_none f e = ap (option_and_then f) e

pub on_map : {A B : Type 0} (f : A → B) {o : Option A} {x : A} → o ≡ Some x → option_map f o ≡ Some (f x)
on_map f e = ap (option_map f) e

pub on_guard : {A : Type 0} {b : Bool} (o : Option A) → b ≡ true → guard b o ≡ o
on_guard o e = ap (λ b. guard b o) e

pub off_guard : {A : Type 0} {b : Bool} (o : Option A) → b ≡ false → guard b o ≡ None
off_guard o e = ap (λ b. guard b o) e

-- a test that answers differently tells two numbers apart
pub told_apart : (test : ℕ → Bool) (c d : ℕ) → test c ≡ false → test d ≡ true → (c == d) ≡ false
told_apart test c d h k = go (c == d) refl
  where
    go : (b : Bool) → (c == d) ≡ b → (c == d) ≡ false
    go false e = e
    go true e = let same : test c ≡ test d = ap test (eqb-true c d e) in absurd (cc)

-- a text that begins with k is that front and the rest
pub front : (k : ℕ) (t : List ℕ) → is_at (λ c. c == k) t ≡ true → t ≡ k ∷ drop 1 t
front k t h = let e = is_at-eq k t h in e.1 ∙ ap (λ u. k ∷ drop 1 u) (sym e.1)

pub two_front : (j k : ℕ) (t : List ℕ) → two_at j k t ≡ true → t ≡ j ∷ k ∷ drop 2 t
two_front j k [] h = cc
two_front j k (c ∷ t) h =
    let parts = and_parts (c == j) _ h in
    ap (λ d. d ∷ t) (eqb-true c j parts.0) ∙ ap (λ u. j ∷ u) (front k t parts.1)
