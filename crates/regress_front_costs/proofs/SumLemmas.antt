-- Sums over lists.
use Rattle.std.proofs.Common.{◌≡◌, ℕ, ◌+◌, ◌<◌, ◌≤◌, Bool, true, false, cond, List, [], ◌∷◌, length, get_or, take, map, filter, sum_by, refl, arith}
use Rattle.std.specs.List.{flat_map}
use Rattle.std.proofs.lemmas.List.{take_more}
use Rattle.std.proofs.lemmas.List.Sums.{sum_by-cons, sum_by-append, sum_by_more_le}

-- of what is made of each
pub sum_by-map : {A B : Type 0} (f : B → ℕ) (g : A → B) (xs : List A) → sum_by f (map g xs) ≡ sum_by (λ x. f (g x)) xs
sum_by-map f g [] = refl
sum_by-map f g (x ∷ xs) =
    let here = sum_by-cons f (g x) (map g xs) in
    let there = sum_by-cons (λ y. f (g y)) x xs in
    omega (arith, here, there, sum_by-map f g xs)

-- some are no more than all
pub sum_by-filter : {A : Type 0} (f : A → ℕ) (test : A → Bool) (xs : List A) → sum_by f (filter test xs) ≤ sum_by f xs
sum_by-filter f test [] = omega arith
sum_by-filter f test (x ∷ xs) = by_test (test x) (sum_by-filter f test xs)
  where
    by_test : (b : Bool) → sum_by f (filter test xs) ≤ sum_by f xs → sum_by f (cond b (x ∷ filter test xs) (filter test xs)) ≤ sum_by f (x ∷ xs)
    by_test true h = omega (arith, h, sum_by-cons f x (filter test xs), sum_by-cons f x xs)
    by_test false h = omega (arith, h, sum_by-cons f x xs)

-- of lists one after another
pub sum_by-flat_map : {A B : Type 0} (f : B → ℕ) (g : A → List B) (xs : List A) → sum_by f (flat_map g xs) ≡ sum_by (λ x. sum_by f (g x)) xs
sum_by-flat_map f g [] = refl
sum_by-flat_map f g (x ∷ xs) =
    let here = sum_by-append f (g x) (flat_map g xs) in
    let there = sum_by-cons (λ y. sum_by f (g y)) x xs in
    omega (arith, here, there, sum_by-flat_map f g xs)

-- of one more
pub sum-more : {A : Type 0} (f : A → ℕ) (xs : List A) (i : ℕ) (x : A) → i < length xs → x ≡ get_or xs i x → sum_by f (take (i + 1) xs) ≡ sum_by f (take i xs) + f x
sum-more f xs i x lt is =
    let one = sum_by-cons f x [] in
    let both = sum_by-append f (take i xs) (x ∷ []) in
    rw (take_more xs i x lt, ← is) (omega (arith, one, both))

-- and that is within the whole
pub sum-within : {A : Type 0} (f : A → ℕ) (xs : List A) (i : ℕ) (x : A) → i < length xs → x ≡ get_or xs i x → sum_by f (take i xs) + f x ≤ sum_by f xs
sum-within f xs i x lt is = let h = sum_by_more_le f xs i x lt in rw (← is) at h
