-- Numbers that digits write: how large they are, and where they stop.
use Rattle.std.proofs.Common.{◌≡◌, ℕ, zero, suc, ◌+◌, ◌*◌, ◌^◌, ◌<◌, ◌≤◌, min, Bool, true, List, [], ◌∷◌, length, fold, sym, ap, subst, ◌∙◌, ◌⊎◌, inl, inr, arith}
use Rattle.std.specs.List.{list_all}
use Rattle.std.proofs.Math.Nat.{mul-le-mul_right, mul_assoc, pow-zero, pow-succ', pow-le-pow_right, mul-zero, mul-suc}
use Rattle.std.proofs.lemmas.Bool.{cases_lt, and_parts}
use Rattle.std.proofs.lemmas.Bool.Decides.{nat_tests}
use Rattle.regress_meaning.specs.Tokens.{is_octal, is_hex, digit_value, number_of, greatest}

-- one more digit, where a number stops at the greatest
abbrev pub stopping : ℕ → ℕ → ℕ → ℕ
stopping radix n c = min (min (n * radix) greatest + digit_value c) greatest

capped : (p q d g : ℕ) → (p ≡ q) ⊎ ((g ≤ p) × (g ≤ q)) → min (min p g + d) g ≡ min (q + d) g
capped p q d g (inl e) = omega arith
capped p q d g (inr e) = omega arith

-- two numbers that are the same up to g are so times a radix, too
scaled : (radix a b g : ℕ) → a ≡ min b g → (a * radix ≡ b * radix) ⊎ ((g ≤ a * radix) × (g ≤ b * radix))
scaled zero a b g e = inl (mul-zero a ∙ sym (mul-zero b))
scaled (suc r) a b g e = elim (cases_lt b g) [
  | inl h ↦ let same : a ≡ b = omega arith in inl (ap (λ n. n * suc r) same)
  | inr h ↦ inr (omega (arith, mul-suc a r), omega (arith, mul-suc b r))
]

-- a number that stops at each digit is the number that stops at the end
pub fold-stopping : (radix : ℕ) (ds : List ℕ) (a b : ℕ) → a ≡ min b greatest → fold (stopping radix) a ds ≡ min (fold (λ n c. n * radix + digit_value c) b ds) greatest
fold-stopping radix [] a b e = e
fold-stopping radix (c ∷ ds) a b e = fold-stopping radix ds (stopping radix a c) (b * radix + digit_value c) (capped _ _ (digit_value c) greatest (scaled radix a b greatest e))

-- a hex digit is below 16
pub hex-below : (c : ℕ) → is_hex c ≡ true → digit_value c < 16
hex-below c h = grind (arith, nat_tests)

pub octal-below : (c : ℕ) → is_octal c ≡ true → digit_value c < 8
octal-below c h = grind (arith, nat_tests)

-- so many digits write a number below that power
fold-below : (test : ℕ → Bool) (radix : ℕ) → ((c : ℕ) → test c ≡ true → digit_value c < radix) → (ds : List ℕ) (a : ℕ) → list_all test ds ≡ true → fold (λ n c. n * radix + digit_value c) a ds < (a + 1) * radix ^ length ds
fold-below test radix digits [] a h = subst (λ p. a < (a + 1) * p) (sym (pow-zero radix)) (omega arith)
fold-below test radix digits (c ∷ ds) a h =
    let parts = and_parts (test c) (list_all test ds) h in
    let power = radix ^ length ds in
    let below = fold-below test radix digits ds (a * radix + digit_value c) parts.1 in
    let digit = digits c parts.0 in
    let here : a * radix + digit_value c + 1 ≤ (a + 1) * radix = omega arith in
    let whole = mul-le-mul_right power here in
    rw (pow-succ' radix (length ds)) (omega (arith, mul_assoc (a + 1) radix power, below, whole))

-- up to n digits write a number below the n-th power
pub number_of-below : (test : ℕ → Bool) (radix n : ℕ) → ((c : ℕ) → test c ≡ true → digit_value c < suc radix) → (ds : List ℕ) → list_all test ds ≡ true → length ds ≤ n → number_of (suc radix) ds < suc radix ^ n
number_of-below test radix n digits ds h short =
    let below = fold-below test (suc radix) digits ds 0 h in
    let power = pow-le-pow_right {n = suc radix} (omega arith) short in
    omega (arith, below, power)
