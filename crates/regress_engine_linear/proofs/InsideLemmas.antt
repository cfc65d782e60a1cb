-- How many of some numbers are below another, one by one.
use Rattle.std.specs.Prelude.{nat_lt}
use Rattle.std.proofs.Common.{◌≡◌, ℕ, suc, ◌+◌, ◌<◌, ◌≤◌, Bool, true, false, List, [], ◌∷◌, drop, length, get_or, if◌then◌else◌, ap, ◌∙◌, arith}
use Rattle.std.proofs.Math.Seq.{drop-cons}
use Rattle.std.proofs.lemmas.List.{drop_all}
use Rattle.regress_engine_linear.specs.RankTables.{below}

pub below-few : (n : ℕ) (xs : List ℕ) → below n xs ≤ length xs
below-few n [] = omega arith
below-few n (x ∷ xs) = by_test (nat_lt x n) (below-few n xs)
  where
    by_test : (b : Bool) → below n xs ≤ length xs → (if b then 1 else 0) + below n xs ≤ suc (length xs)
    by_test true few = omega (arith, few)
    by_test false few = omega (arith, few)

pub below-on : (n : ℕ) (xs : List ℕ) (at d : ℕ) (b : Bool) → at < length xs → nat_lt (get_or xs at d) n ≡ b → below n (drop at xs) ≡ (if b then 1 else 0) + below n (drop (at + 1) xs)
below-on n xs at d b within is =
    let next : suc at ≡ at + 1 = omega arith in
    ap (below n) (drop-cons xs at d within)
    ∙ ap (λ (c : Bool). (if c then 1 else 0) + below n (drop (suc at) xs)) is
    ∙ ap (λ k. (if b then 1 else 0) + below n (drop k xs)) next

pub below-end : (n : ℕ) (xs : List ℕ) (at : ℕ) → length xs ≤ at → below n (drop at xs) ≡ 0
below-end n xs at past = ap (below n) (drop_all at xs past)
