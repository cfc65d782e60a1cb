-- How numbers that are written grow.
use lib.Pointwise.{pointwise}
use Rattle.std.specs.Prelude.{◌≡◌, ◌≢◌, ℕ, ◌+◌, ◌&&◌, Bool, true, false, nat_eq, List, [], ◌∷◌, ◌++◌, length, Some, slice_get, slice_set}
use Rattle.std.proofs.lemmas.Bool.{eqb-true, eq-eqb}
use Rattle.std.proofs.Common.{refl, sym, ap, subst, ◌∙◌, inl, inr, add-one}
use Rattle.regress_calls.specs.Names.{AreNumbers, written_over}

-- a number behind those that are written
pub one-more : (numbers old : List ℕ) (n : ℕ) → slice_set (written_over numbers old) (length numbers) n ≡ written_over (numbers ++ n ∷ []) old
unfolding written_over
one-more [] [] n = refl
one-more [] (x ∷ xs) n = refl
one-more (m ∷ ms) [] n = refl
one-more (m ∷ ms) (x ∷ xs) n = ap (λ l. m ∷ l) (one-more ms xs n)

-- a group that has the name adds its number
pub taken : (names : List (List ℕ)) (name : List ℕ) (k : ℕ) (before : List ℕ) → AreNumbers names name k before → slice_get names k ≡ Some name
    → AreNumbers names name (k + 1) (before ++ (k + 1) ∷ [])
taken names name k before are is =
    subst (λ (n : ℕ). AreNumbers names name n (before ++ n ∷ [])) (sym (add-one k)) (inl (before, are, is, refl))

-- and one that has another does not
pub skipped : (names : List (List ℕ)) (name : List ℕ) (k : ℕ) (numbers : List ℕ) → AreNumbers names name k numbers → slice_get names k ≢ Some name
    → AreNumbers names name (k + 1) numbers
skipped names name k numbers are other = subst (λ (n : ℕ). AreNumbers names name n numbers) (sym (add-one k)) (inr (are, other))

-- bytes that are compared one by one are the same
pub same-bytes : (xs ys : List ℕ) → pointwise nat_eq xs ys ≡ true → xs ≡ ys
same-bytes [] [] e = refl
same-bytes [] (y ∷ ys) e = absurd (cc)
same-bytes (x ∷ xs) [] e = absurd (cc)
same-bytes (x ∷ xs) (y ∷ ys) e = go (nat_eq x y) refl (same-bytes xs ys) e
  where
    go : (b : Bool) → nat_eq x y ≡ b → (pointwise nat_eq xs ys ≡ true → xs ≡ ys) → (b && pointwise nat_eq xs ys) ≡ true → x ∷ xs ≡ y ∷ ys
    go true h rest e = λ i. eqb-true x y h i ∷ rest e i
    go false h rest e = absurd (cc)

-- and the same bytes are found so
pub same-self : (xs : List ℕ) → pointwise nat_eq xs xs ≡ true
same-self [] = refl
same-self (x ∷ xs) = ap (λ (b : Bool). b && pointwise nat_eq xs xs) (eq-eqb x x refl) ∙ same-self xs
