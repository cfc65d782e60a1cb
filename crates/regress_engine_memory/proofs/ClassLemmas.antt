-- Loops by their numbers, and one by one.
use Rattle.std.specs.Prelude.{if◌then◌else◌}
use Rattle.std.specs.List.{list_all}
use Rattle.std.proofs.Common.{◌≡◌, ℕ, suc, ◌<◌, ◌||◌, ◌==◌, inl, inr, Bool, true, false, List, [], ◌∷◌, ◌++◌, length, get_or, refl, sym, ap, ◌∙◌, subst, arith}
use Rattle.std.proofs.lemmas.Bool.{and_parts, and_from, or_cases, or_left, or_right, eqb-true, eq-eqb}
use Rattle.std.proofs.lemmas.List.Folds.{list_all-append, list_any-append}
use Rattle.regress_meaning.specs.Text.{holds}
use Rattle.regress_engine_memory.specs.Remembered.{class_in}

-- a test that each of some numbers passes is passed by what is among them
pub all-held : (test : ℕ → Bool) (ids : List ℕ) → list_all test ids ≡ true → (id : ℕ) → holds ids id ≡ true → test id ≡ true
all-held test [] e id h = absurd (cc h)
all-held test (x ∷ ids) e id h =
    let both = and_parts (test x) (list_all test ids) e in
    elim (or_cases (x == id) (holds ids id) h) [
      | inl same ↦ subst (λ i. test i ≡ true) (eqb-true x id same) both.0
      | inr later ↦ all-held test ids both.1 id later
    ]

-- each of some numbers passes a test that all pass which are among them
all-pass : (test : ℕ → Bool) (ids : List ℕ) → ((id : ℕ) → holds ids id ≡ true → test id ≡ true) → list_all test ids ≡ true
all-pass test [] each = refl
all-pass test (x ∷ ids) each =
    and_from (test x) (list_all test ids) (each x (or_left (x == x) (holds ids x) (eq-eqb x x refl)))
    (all-pass test ids (λ id h. each id (or_right (x == id) (holds ids id) h)))

-- each of some numbers is among those that begin with them
pub front-among : (others ids more : List ℕ) → others ≡ ids ++ more → list_all (holds others) ids ≡ true
front-among others ids more e =
    all-pass (holds others) ids (λ id h. ap (λ xs. holds xs id) e ∙ list_any-append (λ d. d == id) ids more ∙ or_left (holds ids id) (holds more id) h)

-- so they are where one more number is among the others
pub front-among_or : (one : ℕ) (others ids more : List ℕ) → others ≡ ids ++ more → list_all (holds (one ∷ others)) ids ≡ true
front-among_or one others ids more e =
    all-pass (holds (one ∷ others)) ids (λ id h. or_right (one == id) (holds others id) (all-held (holds others) ids (front-among others ids more e) id h))

-- and so is that number itself behind them
pub front-among_last : (one : ℕ) (others ids more : List ℕ) → others ≡ ids ++ more → list_all (holds (one ∷ others)) (ids ++ one ∷ []) ≡ true
front-among_last one others ids more e =
    list_all-append (holds (one ∷ others)) ids (one ∷ [])
    ∙ and_from (list_all (holds (one ∷ others)) ids) (list_all (holds (one ∷ others)) (one ∷ [])) (front-among_or one others ids more e)
    (and_from (holds (one ∷ others) one) true (or_left (one == one) (holds others one) (eq-eqb one one refl)) refl)

-- what holds of each of some numbers, one by one, holds of what is among them
pub each-held : (P : ℕ → Type 0) (ids : List ℕ) → ((k : ℕ) → k < length ids → P (get_or ids k 0)) → (id : ℕ) → holds ids id ≡ true → P id
each-held P [] each id h = absurd (cc h)
each-held P (x ∷ ids) each id h = by_test (x == id) refl h (each-held P ids (λ k less. each (suc k) (omega (arith, less))) id)
  where
    by_test : (b : Bool) → (x == id) ≡ b → (b || holds ids id) ≡ true → (holds ids id ≡ true → P id) → P id
    by_test true e h rest = subst P (eqb-true x id e) (each 0 (omega arith))
    by_test false e h rest = rest h

-- loops that have classes one by one have them by their numbers
pub classes-are : (f : ℕ → ℕ) (ids classes : List ℕ) → length classes ≡ length ids → ((k : ℕ) → k < length ids → f (get_or ids k 0) ≡ get_or classes k 0)
    → (id : ℕ) → holds ids id ≡ true → f id ≡ class_in ids classes id
classes-are f [] classes size each id h = absurd (cc h)
classes-are f (x ∷ ids) [] size each id h = absurd (omega (arith, size))
classes-are f (x ∷ ids) (c ∷ classes) size each id h =
    by_test (x == id) refl h (classes-are f ids classes (omega (arith, size)) (λ k less. each (suc k) (omega (arith, less))) id)
  where
    by_test : (b : Bool) → (x == id) ≡ b → (b || holds ids id) ≡ true → (holds ids id ≡ true → f id ≡ class_in ids classes id)
        → f id ≡ (if b then c else class_in ids classes id)
    by_test true e h rest = ap f (sym (eqb-true x id e)) ∙ each 0 (omega arith)
    by_test false e h rest = rest h
