-- The number that digits write, one digit after another.
use Rattle.std.proofs.Common.{◌≡◌, ℕ, ◌+◌, ◌-◌, ◌*◌, ◌<◌, ◌≤◌, true, false, List, [], ◌∷◌, length, drop, get_or, ◌⊎◌, inl, inr, refl, arith}
use Rattle.std.proofs.lemmas.Bool.{le-leb, lt-leb}
use Rattle.std.proofs.lemmas.Bool.Decides.{nat_tests}
use Rattle.std.proofs.Math.Bool.{and-false}
use Rattle.std.proofs.lemmas.List.{drop_all, drop_more}
use Rattle.std.specs.Char.{is_ascii_digit}
use Rattle.regress_replacing.specs.Replacing.{number_after}

-- a digit that is taken
pub number-step : (n : ℕ) (t : List ℕ) (i : ℕ) → i < length t → is_ascii_digit (get_or t i 0) ≡ true → n ≤ 65535
    → ((number_after n (drop i t)).0 ≡ (number_after (n * 10 + (get_or t i 0 - 0x30)) (drop (i + 1) t)).0)
    × ((number_after n (drop i t)).1 ≡ (number_after (n * 10 + (get_or t i 0 - 0x30)) (drop (i + 1) t)).1 + 1)
unfolding number_after
number-step n t i inside digit small = rw (drop_more t i 0 inside, digit, le-leb n 65535 small) (refl, refl)

-- what is no digit
pub number-other : (n : ℕ) (t : List ℕ) (i : ℕ) → i < length t → is_ascii_digit (get_or t i 0) ≡ false → number_after n (drop i t) ≡ (n, 0)
unfolding number_after
number-other n t i inside other = rw (drop_more t i 0 inside, other) refl

-- the number is too large to go on
pub number-large : (n : ℕ) (t : List ℕ) (i : ℕ) → 65535 < n → number_after n (drop i t) ≡ (n, 0)
unfolding number_after
number-large n t i large = go (drop i t)
  where
    go : (s : List ℕ) → number_after n s ≡ (n, 0)
    go [] = refl
    go (c ∷ s) = rw (lt-leb n 65535 large, and-false) refl

-- no digit is left
pub number-end : (n : ℕ) (t : List ℕ) (i : ℕ) → length t ≤ i → number_after n (drop i t) ≡ (n, 0)
unfolding number_after
number-end n t i past = rw (drop_all i t past) refl

-- a step ends at what is no digit, and where the number is too large
pub number-stop : (n : ℕ) (t : List ℕ) (i : ℕ) → i < length t → (is_ascii_digit (get_or t i 0) ≡ false) ⊎ (65535 < n)
    → number_after n (drop i t) ≡ (n, 0)
number-stop n t i inside (inl other) = number-other n t i inside other
number-stop n t i inside (inr large) = number-large n t i large

-- a digit is ASCII, and its value is below ten
pub digit_is_small : (c : ℕ) → is_ascii_digit c ≡ true → (c < 128) × (c - 48 ≤ 9)
digit_is_small c e = (grind (arith, nat_tests), grind (arith, nat_tests))
