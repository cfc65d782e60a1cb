-- Slots are filled one after another.
use Rattle.std.proofs.Common.{◌≡◌, ℕ, zero, suc, ◌-◌, ◌<◌, List, [], ◌∷◌, ◌++◌, length, drop, map, get_or, Option, None, refl, ap, ◌∙◌, arith}
use Rattle.std.specs.Prelude.{slice_set}
use Rattle.regress_match.specs.GroupRanges.{numbered}
use Rattle.regress_match.specs.Slots.{slots_of}

-- one slot more
pub one-more : {A : Type 0} (groups : List (Option A)) (i : ℕ) (old : List (Option A)) → i < length old
    → slice_set (slots_of i groups ++ drop i old) i (numbered groups i) ≡ slots_of (suc i) groups ++ drop (suc i) old
unfolding slots_of
one-more groups i [] inside = absurd (omega (arith, inside))
one-more [] zero (o ∷ old) inside = refl
one-more (g ∷ groups) zero (o ∷ old) inside = refl
one-more [] (suc i) (o ∷ old) inside = ap (λ slots. None ∷ slots) (one-more [] i old (omega (arith, inside)))
one-more (g ∷ groups) (suc i) (o ∷ old) inside = ap (λ slots. g ∷ slots) (one-more groups i old (omega (arith, inside)))

-- no slot yet
pub none-yet : {A : Type 0} (groups old : List (Option A)) → old ≡ slots_of 0 groups ++ drop 0 old
unfolding slots_of
none-yet groups old = refl

-- the slot of a group
module _ {A B : Type 0} (f : A → Option B) where
  group-at : (xs : List A) (k : ℕ) (d : A) → k < length xs → f (get_or xs k d) ≡ numbered (map f xs) k
  group-at [] k d inside = absurd (omega (arith, inside))
  group-at (x ∷ xs) zero d inside = refl
  group-at (x ∷ xs) (suc k) d inside = group-at xs k d (omega (arith, inside))

  pub group-slot : (whole : Option B) (xs : List A) (i : ℕ) (x d : A) → 0 < i → i - 1 < length xs → x ≡ get_or xs (i - 1) d
      → f x ≡ numbered (whole ∷ map f xs) i
  group-slot whole xs zero x d some inside is = absurd (omega (arith, some))
  group-slot whole xs (suc k) x d some inside is =
      let before : suc k - 1 ≡ k = omega arith in
      ap f is ∙ ap (λ n. f (get_or xs n d)) before ∙ group-at xs k d (omega (arith, before, inside))
