-- What a replacement text gives, step by step.
use Rattle.std.proofs.Common.{◌≡◌, ◌≢◌, ℕ, zero, suc, ◌<◌, false, ◌==◌, List, [], ◌∷◌, ◌++◌, length, drop, get_or, codes, refl, ap, arith, ne_eqb}
use Rattle.std.specs.Char.{is_ascii_digit}
use Rattle.regress_meaning.specs.Text.{is_at}
use Rattle.regress_replacing.specs.Replacing.{at_dollar, given_behind}

module _ (by_number : ℕ → List ℕ) (by_name : List ℕ → List ℕ) where
  -- what is passed over gives nothing
  given-passed : (n : ℕ) (t : List ℕ) → given_behind by_number by_name n t ≡ given_behind by_number by_name 0 (drop n t)
  unfolding given_behind
  given-passed zero t = refl
  given-passed (suc n) [] = refl
  given-passed (suc n) (c ∷ t) = given-passed n t

  -- what has no `$` stands for itself
  pub given-plain : (xs ys : List ℕ) → ((i : ℕ) → i < length xs → get_or xs i 0 ≢ 0x24)
      → given_behind by_number by_name 0 (xs ++ ys) ≡ xs ++ given_behind by_number by_name 0 ys
  unfolding given_behind
  given-plain [] ys none = refl
  given-plain (c ∷ xs) ys none =
      rw (ne_eqb c 0x24 (none 0 (omega arith)), given-plain xs ys (λ i below. none (suc i) (omega arith))) refl

  -- a `$` gives what it stands for, before what is left
  pub given-dollar : (t : List ℕ) → given_behind by_number by_name 0 (0x24 ∷ t)
      ≡ (at_dollar by_number by_name t).0 ++ given_behind by_number by_name 0 (drop (at_dollar by_number by_name t).1 t)
  unfolding given_behind
  given-dollar t = ap (λ (r : List ℕ). (at_dollar by_number by_name t).0 ++ r) (given-passed (at_dollar by_number by_name t).1 t)

  pub given-end : given_behind by_number by_name 0 [] ≡ []
  unfolding given_behind
  given-end = refl

  -- any other `$`
  pub nothing-there : (t : List ℕ) → is_at (λ c. c == 0x24) t ≡ false → is_at (λ c. c == 0x7B) t ≡ false → is_at is_ascii_digit t ≡ false
      → at_dollar by_number by_name t ≡ (codes "$", 0)
  nothing-there t dollar brace digit = rw (dollar, brace, digit) refl

-- a text that begins with no c
pub not-at : (c : ℕ) (t : List ℕ) → ((rest : List ℕ) → t ≢ c ∷ rest) → is_at (λ d. d == c) t ≡ false
not-at c [] none = refl
not-at c (d ∷ t) none = ne_eqb d c (λ e. none t (ap (λ (x : ℕ). x ∷ t) e))
