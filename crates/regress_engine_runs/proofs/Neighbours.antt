-- The code point beside a place, in the words of the meaning and of an input.
use Rattle.std.specs.Prelude.{nat_le, is_some, slice_range, slice_get}
use Rattle.std.specs.List.{list_all}
use Rattle.std.proofs.Common.{◌≡◌, ◌⊎◌, inl, inr, ℕ, zero, suc, ◌+◌, ◌-◌, ◌<◌, ◌≤◌, ◌≢◌, ◌==◌, Bool, true, false, not, ◌&&◌, List, [], ◌∷◌, length, take, drop, Option, Some, None, if◌then◌else◌, option_map, refl, ap, ap₂, ◌∙◌, arith}
use Rattle.std.proofs.lemmas.Option.{slice_get_within, get_or_from_slice_get, gets}
use Rattle.std.proofs.lemmas.List.{drop_more}
use Rattle.std.proofs.lemmas.Grind.{common_steps}
use Rattle.std.proofs.lemmas.Bool.Decides.{nat_tests}
use Rattle.regress_meaning.specs.Meaning.{Direction, Forward, Backward, Context, beside, before, after}
use Rattle.regress_meaning.specs.Laws.{IsAhead}
use Rattle.regress_meaning.specs.Inputs.{neighbour}

-- a range of one
range-one : (xs : List ℕ) (p n : ℕ) (c : ℕ) → n ≡ 1 → slice_get xs p ≡ Some c → take n (drop p xs) ≡ c ∷ []
range-one xs p n c e h =
    let room : p < length xs = slice_get_within xs p c h in
    let front : drop p xs ≡ c ∷ drop (p + 1) xs = drop_more xs p 0 room ∙ ap (λ x. x ∷ drop (p + 1) xs) (get_or_from_slice_get xs p c 0 h) in
    ap₂ take e front

pub all-one : (test : ℕ → Bool) (c : ℕ) → list_all test (c ∷ []) ≡ test c
all-one test c = by_value (test c)
  where
    by_value : (b : Bool) → (b && true) ≡ b
    by_value true = refl
    by_value false = refl

-- there is none beside a place, or one on the side that is read next
abbrev pub Beside : Context → Direction → ℕ → Type 0
Beside context dir p =
    ((neighbour context.text dir p ≡ None) × (beside context dir 1 p ≡ None))
    ⊎ ((c q : ℕ) × (neighbour context.text dir p ≡ Some (c, q)) × (beside context dir 1 p ≡ Some (c ∷ [], q)) × (q ≤ length context.text) × IsAhead dir p q × (q ≢ p))

module _ (context : Context) where
  forward : (p : ℕ) (o : Option ℕ) → slice_get context.text p ≡ o → Beside context Forward p
  unfolding beside
  forward p None e =
      let past : nat_le (p + 1) (length context.text) ≡ false = grind (arith, common_steps, gets, nat_tests) in
      inl (ap (option_map (λ c. (c, suc p))) e, ap (λ (b : Bool). if b then Some (slice_range context.text p (p + 1), p + 1) else None) past)
  forward p (Some c) e =
      let room : p < length context.text = slice_get_within context.text p c e in
      let inside : nat_le (p + 1) (length context.text) ≡ true = grind (arith, nat_tests) in
      let found : slice_range context.text p (p + 1) ≡ c ∷ [] = range-one context.text p (p + 1 - p) c (omega arith) e in
      inr (
        c,
        suc p,
        ap (option_map (λ c. (c, suc p))) e,
        ap (λ (b : Bool). if b then Some (slice_range context.text p (p + 1), p + 1) else None) inside ∙ ap₂ (λ cs q. Some (cs, q)) found (omega arith),
        room,
        omega arith,
        λ f. absurd (omega arith),
      )

  backward : (p : ℕ) (o : Option ℕ) → suc p ≤ length context.text → slice_get context.text p ≡ o → Beside context Backward (suc p)
  unfolding beside
  backward p None room e = absurd (grind (arith, common_steps, gets))
  backward p (Some c) room e =
      let inside : nat_le 1 (suc p) ≡ true = grind (arith, nat_tests) in
      let same : suc p - 1 ≡ p = omega arith in
      let found : slice_range context.text (suc p - 1) (suc p) ≡ c ∷ [] =
      ap (λ q. slice_range context.text q (suc p)) same ∙ range-one context.text p (suc p - p) c (omega arith) e in
      inr (
        c,
        p,
        ap (option_map (λ c. (c, p))) e,
        ap (λ (b : Bool). if b then Some (slice_range context.text (suc p - 1) (suc p), suc p - 1) else None) inside ∙ ap₂ (λ cs q. Some (cs, q)) found same,
        omega arith,
        omega arith,
        λ f. absurd (omega arith),
      )

  pub neighbours : (dir : Direction) (p : ℕ) → p ≤ length context.text → Beside context dir p
  unfolding beside
  neighbours Forward p room = forward p (slice_get context.text p) refl
  neighbours Backward zero room = inl (refl, refl)
  neighbours Backward (suc p) room = backward p (slice_get context.text p) room refl

  -- the code points before and after a place
  pub point-before : (p : ℕ) → option_map (λ (x : ℕ × ℕ). x.0) (neighbour context.text Backward p) ≡ before context p
  point-before zero = refl
  point-before (suc p) = by_value (slice_get context.text p)
    where
      by_value : (o : Option ℕ) → option_map (λ (x : ℕ × ℕ). x.0) (option_map (λ c. (c, p)) o) ≡ o
      by_value None = refl
      by_value (Some c) = refl

  pub point-after : (p : ℕ) → option_map (λ (x : ℕ × ℕ). x.0) (neighbour context.text Forward p) ≡ after context p
  point-after p = by_value (slice_get context.text p)
    where
      by_value : (o : Option ℕ) → option_map (λ (x : ℕ × ℕ). x.0) (option_map (λ c. (c, suc p)) o) ≡ o
      by_value None = refl
      by_value (Some c) = refl

  -- at the ends there is none
  pub none-before : (p : ℕ) → p ≤ length context.text → not (is_some (neighbour context.text Backward p)) ≡ (p == 0)
  none-before zero room = grind (arith, nat_tests)
  none-before (suc p) room = by_value (slice_get context.text p) refl
    where
      by_value : (o : Option ℕ) → slice_get context.text p ≡ o → not (is_some {T = ℕ × ℕ} (option_map (λ c. (c, p)) o)) ≡ (suc p == 0)
      by_value None e = absurd (grind (arith, common_steps, gets))
      by_value (Some c) e = grind (arith, nat_tests)

  pub none-after : (p : ℕ) → p ≤ length context.text → not (is_some (neighbour context.text Forward p)) ≡ (p == length context.text)
  none-after p room = by_value (slice_get context.text p) refl
    where
      by_value : (o : Option ℕ) → slice_get context.text p ≡ o → not (is_some {T = ℕ × ℕ} (option_map (λ c. (c, suc p)) o)) ≡ (p == length context.text)
      by_value None e = grind (arith, common_steps, gets, nat_tests)
      by_value (Some c) e = let inside : p < length context.text = slice_get_within context.text p c e in grind (arith, nat_tests)
