-- Numbers below a bound, one more at a time.
use Rattle.std.proofs.Common.{◌≡◌, ℕ, zero, suc, ◌+◌, Bool, true, false, ◌&&◌, ◌||◌, nat_le, nat_lt, ◌==◌, List, [], ◌∷◌, ◌++◌, inl, inr, sym, ap, ◌∙◌, arith, add-one}
use Rattle.std.specs.List.{flat_map}
use Rattle.std.proofs.lemmas.List.{flat_map_more}
use Rattle.std.proofs.lemmas.Bool.{cases_lt, false≢true}
use Rattle.std.proofs.lemmas.Bool.Decides.{nat_tests}
use Rattle.regress_meaning.specs.Text.{count_up}
use Rattle.regress_meaning.specs.Table.{last_code_point, code_points}

count_up-more : (a n : ℕ) → count_up a (n + 1) ≡ count_up a n ++ (a + n) ∷ []
count_up-more a zero = let same : a ≡ a + zero = omega arith in ap (λ k. k ∷ []) same
count_up-more a (suc n) =
    let moved : suc a + n ≡ a + suc n = omega arith in
    ap (count_up a) (add-one (suc n))
    ∙ ap (λ l. a ∷ l) (ap (count_up (suc a)) (sym (add-one n)) ∙ count_up-more (suc a) n ∙ ap (λ k. count_up (suc a) n ++ k ∷ []) moved)

-- what a function lists for the numbers below n, and for n
pub counted-more : {X : Type 0} (f : ℕ → List X) (n : ℕ) → flat_map f (count_up 0 (n + 1)) ≡ flat_map f (count_up 0 n) ++ f n
counted-more f n = let next : 0 + n ≡ n = omega arith in ap (flat_map f) (count_up-more 0 n ∙ ap (λ k. count_up 0 n ++ k ∷ []) next) ∙ sym (flat_map_more f [] (count_up 0 n) n)

-- ---- numbers below a bound that pass a test

pub small-same : (c : ℕ) → nat_lt c code_points ≡ nat_le c last_code_point
small-same c = grind (arith, nat_tests)

pub below-none : (k : ℕ) (b : Bool) → (nat_lt k 0 && b) ≡ false
below-none k b = grind (arith, nat_tests)

-- the bound itself passes
pub below-more : (k n : ℕ) (b : Bool) → (k ≡ n → b ≡ true) → ((nat_lt k n && b) || k == n) ≡ (nat_lt k (n + 1) && b)
below-more k n true h = grind (arith, nat_tests)
below-more k n false h =
    elim (cases_lt k n) [
      | inl l ↦ grind (arith, nat_tests)
      | inr l ↦ elim (cases_lt n k) [ inl m ↦ grind (arith, nat_tests) | inr m ↦ absurd (false≢true (h (omega arith))) ]
    ]

-- the bound itself does not pass
pub below-same : (k n : ℕ) (b : Bool) → (k ≡ n → b ≡ false) → (nat_lt k n && b) ≡ (nat_lt k (n + 1) && b)
below-same k n false h = grind (arith, nat_tests)
below-same k n true h =
    elim (cases_lt k n) [
      | inl l ↦ grind (arith, nat_tests)
      | inr l ↦ elim (cases_lt n k) [ inl m ↦ grind (arith, nat_tests) | inr m ↦ absurd (false≢true (sym (h (omega arith)))) ]
    ]
