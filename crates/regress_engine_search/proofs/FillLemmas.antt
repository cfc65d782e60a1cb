-- Lists that were empty and are filled with one value.
use Rattle.std.proofs.Common.{◌≡◌, ℕ, zero, suc, ◌-◌, List, [], ◌∷◌, ◌++◌, map, take, replicate, refl, ap, ap₂, ◌∙◌, arith}

map-replicate : {A B : Type 0} (f : A → B) (n : ℕ) (v : A) → map f (replicate n v) ≡ replicate n (f v)
map-replicate f zero v = refl
map-replicate f (suc n) v = ap (λ xs. f v ∷ xs) (map-replicate f n v)

take-none : {A : Type 0} (n : ℕ) (xs : List A) → xs ≡ [] → take n xs ≡ []
take-none zero xs e = refl
take-none (suc n) [] e = refl
take-none (suc n) (x ∷ xs) e = absurd (cc e)

-- what the list shows, where the value shows another
pub filled : {A B : Type 0} (f : A → B) (new old : List A) (n l : ℕ) (v : A) (w : B) → new ≡ take n old ++ replicate (n - l) v → old ≡ [] → l ≡ 0 → f v ≡ w
    → map f new ≡ replicate n w
filled f new old n l v w is none empty same =
    let count : n - l ≡ n = omega (arith, empty) in
    ap (map f) (is ∙ ap₂ (λ xs m. xs ++ replicate m v) (take-none n old none) count) ∙ map-replicate f n v ∙ ap (replicate n) same
