-- Sixteen units as bytes.
use Rattle.std.proofs.Common.{◌≡◌, ap₂, ℕ, ◌<◌, ◌≤◌, ◌⊎◌, inl, inr, Bool, true, false, List, [], ◌∷◌, length, map, replicate, cond, ltb, refl, sym, ap, ◌∙◌, subst, arith}
use Rattle.std.specs.Simd.Lanes.{Each1, sel_l, top, zip2}
use Rattle.std.proofs.lemmas.Bool.{cases_lt, lt-ltb, le-ltb}
use Rattle.std.proofs.lemmas.Bool.Decides.{nat_tests}
use Rattle.regress_engine_scanning.specs.Units.{AreAscii}

-- the byte of the same number, or 0xFF
abbrev pub narrow : ℕ → ℕ
narrow n = cond (ltb n 255) n 255

narrow-one : (b : Bool) (n : ℕ) → cond (top 15 (cond b 65535 0)) n 255 ≡ cond b n 255
narrow-one true n = refl
narrow-one false n = refl

-- the lesser of each lane and 0xFF
abbrev pub least_of : ℕ → List ℕ → List ℕ
least_of lanes xs = sel_l (map (top 15) (zip2 (λ a b. cond (ltb a b) 65535 0) xs (replicate lanes 255))) xs (replicate lanes 255)

narrow-lanes : (xs : List ℕ) → least_of (length xs) xs ≡ map narrow xs
narrow-lanes [] = refl
narrow-lanes (x ∷ xs) = ap₂ (λ b bs. b ∷ bs) (narrow-one (ltb x 255) x) (narrow-lanes xs)

pub narrowed-lanes : (xs : List ℕ) → length xs ≡ 16 → least_of 16 xs ≡ map narrow xs
narrowed-lanes xs long = subst (λ n. least_of n xs ≡ map narrow xs) long (narrow-lanes xs)

pub narrow-small : (n : ℕ) → narrow n < 256
narrow-small n = grind (arith, nat_tests)

pub each-small : (P : ℕ → Type 0) → ((n : ℕ) → n < 256 → P n) → (xs : List ℕ) → Each1 P (map narrow xs)
each-small P small [] = tt
each-small P small (x ∷ xs) = (small (narrow x) (narrow-small x), each-small P small xs)

-- a set of ASCII has a unit where it has the byte
narrow-held : (set : ℕ → Bool) → AreAscii set → (n : ℕ) → set (narrow n) ≡ set n
narrow-held set low n = by_order (cases_lt n 255)
  where
    beyond : (b : ℕ) → 0x80 ≤ b → (v : Bool) → set b ≡ v → v ≡ false
    beyond b past false e = refl
    beyond b past true e = absurd (let less = low b e in omega (arith, past, less))

    none : (b : ℕ) → 0x80 ≤ b → set b ≡ false
    none b past = beyond b past (set b) refl

    by_order : (n < 255) ⊎ (255 ≤ n) → set (narrow n) ≡ set n
    by_order (inl less) = ap (λ b. set (cond b n 255)) (lt-ltb n 255 less)
    by_order (inr more) = ap (λ b. set (cond b n 255)) (le-ltb n 255 more) ∙ none 255 (omega arith) ∙ sym (none n (omega (arith, more)))

pub narrowed-held : (set : ℕ → Bool) → AreAscii set → (xs : List ℕ) → map set (map narrow xs) ≡ map set xs
narrowed-held set low [] = refl
narrowed-held set low (x ∷ xs) = ap₂ (λ b bs. b ∷ bs) (narrow-held set low x) (narrowed-held set low xs)
