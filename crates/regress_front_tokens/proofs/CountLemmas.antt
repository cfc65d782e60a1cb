-- How many code points of a text pass a test.
use Rattle.std.proofs.Common.{cond, ◌≡◌, ℕ, suc, ◌≤◌, Bool, true, List, ◌∷◌, ap, arith}
use Rattle.std.specs.Prelude.{count_by}
use Rattle.std.proofs.lemmas.List.Sums.{sum_by-cons}

-- one more code point counts no less
pub count-less : (test : ℕ → Bool) (c : ℕ) (t : List ℕ) → count_by test t ≤ count_by test (c ∷ t)
count-less test c t = let e = sum_by-cons (λ x. cond (test x) 1 0) c t in omega arith

-- one that passes counts one more
pub count-opening : (test : ℕ → Bool) (c : ℕ) (t : List ℕ) → test c ≡ true → count_by test (c ∷ t) ≡ suc (count_by test t)
count-opening test c t h = let e = sum_by-cons (λ x. cond (test x) 1 0) c t in let one : ◌≡◌ {A = ℕ} (cond {A = ℕ} (test c) 1 0) 1 = ap (λ b. cond {A = ℕ} b 1 0) h in omega arith
