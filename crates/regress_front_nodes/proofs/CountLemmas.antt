-- How often a number stands in a list.
use Rattle.std.specs.Prelude.{count_by, cond}
use Rattle.std.proofs.Common.{◌≡◌, ℕ, ◌+◌, ◌==◌, List, [], ◌∷◌, ◌++◌, ap, ◌∙◌, arith}
use Rattle.std.proofs.lemmas.List.Sums.{sum_by-append}

-- how often the number stands in the list
abbrev pub times : ℕ → List ℕ → ℕ
times i xs = count_by (λ id. id == i) xs

-- a number is in one of two lists
pub count-append : (i : ℕ) (xs ys : List ℕ) → times i (xs ++ ys) ≡ times i xs + times i ys
count-append i xs ys = sum_by-append _ xs ys

pub count-one : (i x : ℕ) → times i (x ∷ []) ≡ cond (x == i) 1 0
count-one i x = omega arith

pub count-cons : (i x : ℕ) (xs : List ℕ) → times i (x ∷ xs) ≡ cond (x == i) 1 0 + times i xs
count-cons i x xs = count-append i (x ∷ []) xs ∙ ap (λ m. m + times i xs) (count-one i x)
