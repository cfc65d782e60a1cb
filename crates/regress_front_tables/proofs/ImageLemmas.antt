-- What a map of case gives, whose pairs rise.
use Rattle.std.proofs.Common.{◌≡◌, ◌≢◌, ℕ, zero, suc, ◌/◌, ◌<◌, ◌≤◌, ◌⊎◌, ◌==◌, not, ◌&&◌, Bool, true, false, cond, List, [], ◌∷◌, length, get_or, All, Contains, refl, sym, ap, ◌∙◌, inl, inr, arith}
use Rattle.std.specs.List.Sorted.{IsNonDecreasingBy, IsPartitionPoint}
use Rattle.std.specs.List.{HoldsAt}
use Rattle.std.specs.Ordering.{nat_cmp, ordering_index}
use Rattle.std.specs.declared.cmp.Ordering.TheVariants.{Less, Equal, Greater}
use Rattle.std.proofs.lemmas.Bool.{eqb-true, eqb-false, eq-eqb, ne_eqb, cases_lt, not-true, not-false, and_parts, and_cases, both_ways}
use Rattle.std.proofs.lemmas.Bool.Decides.{nat_tests}
use Rattle.std.proofs.lemmas.Cmp.{ranked}
use Rattle.std.proofs.lemmas.List.Elements.{All-nil, All-cons, All-head, All-tail, All-contains}
use Rattle.regress_meaning.specs.TableParts.{image, is_surrogate, PairsRise, IsIdempotentAt, AvoidsSurrogates}

-- ---- pairs that rise

-- what stands behind the first pair rises too
pub PairsRise-tail : (p : ℕ × ℕ) (pairs : List (ℕ × ℕ)) → PairsRise (p ∷ pairs) → PairsRise pairs
PairsRise-tail p [] rise = tt
PairsRise-tail p (q ∷ pairs) rise = rise.1

-- what stands behind the first pair lies above it
pub PairsRise-above : (p : ℕ × ℕ) (pairs : List (ℕ × ℕ)) → PairsRise (p ∷ pairs) → All (λ q. p.0 < q.0) pairs
PairsRise-above p [] rise = All-nil (λ q. p.0 < q.0)
PairsRise-above p (q ∷ pairs) rise =
    All-cons (λ r. p.0 < r.0) q pairs rise.0
    (λ k d l. omega (arith, rise.0, PairsRise-above q pairs rise.1 k d l))

-- a later pair lies above an earlier one
pub PairsRise-at : (pairs : List (ℕ × ℕ)) → PairsRise pairs → (i j : ℕ) (d : ℕ × ℕ) → i < j → j < length pairs
    → (get_or pairs i d).0 < (get_or pairs j d).0
PairsRise-at [] rise i j d before l = absurd (omega arith)
PairsRise-at (p ∷ pairs) rise i zero d before l = absurd (omega arith)
PairsRise-at (p ∷ pairs) rise zero (suc j) d before l = PairsRise-above p pairs rise j d (omega arith)
PairsRise-at (p ∷ pairs) rise (suc i) (suc j) d before l =
    PairsRise-at pairs (PairsRise-tail p pairs rise) i j d (omega arith) (omega arith)

-- ---- what a map gives

-- what isn't listed maps to itself
pub image-unlisted : (pairs : List (ℕ × ℕ)) (c : ℕ) → All (λ p. p.0 ≢ c) pairs → image pairs c ≡ c
unfolding image
image-unlisted [] c h = refl
image-unlisted (p ∷ pairs) c h =
    rw (ne_eqb p.0 c (All-head (λ q. q.0 ≢ c) p pairs h))
    (image-unlisted pairs c (All-tail (λ q. q.0 ≢ c) p pairs h))

-- what is listed maps to its second part
pub All-image : (pairs : List (ℕ × ℕ)) → PairsRise pairs → All (λ p. image pairs p.0 ≡ p.1) pairs
unfolding image
All-image [] rise = All-nil (λ p. p.0 ≡ p.1)
All-image (p ∷ pairs) rise =
    All-cons (λ q. cond (p.0 == q.0) p.1 (image pairs q.0) ≡ q.1) p pairs
    (rw (eq-eqb p.0 p.0 refl))
    (λ k d l. let q = get_or pairs k d in
    let other : p.0 ≢ q.0 = λ same. omega (arith, PairsRise-above p pairs rise k d l) in
    rw (ne_eqb p.0 q.0 other) (All-image pairs (PairsRise-tail p pairs rise) k d l))

pub image-listed : (pairs : List (ℕ × ℕ)) (c d : ℕ) → PairsRise pairs → Contains pairs (c, d) → image pairs c ≡ d
image-listed pairs c d rise listed =
    All-contains (λ p. image pairs p.0 ≡ p.1) pairs (c, d) (All-image pairs rise) listed

-- a code point isn't listed, or it is listed with its image
pub image_cases : (pairs : List (ℕ × ℕ)) (c : ℕ) → All (λ p. p.0 ≢ c) pairs ⊎ Contains pairs (c, image pairs c)
unfolding image
image_cases [] c = inl (All-nil (λ p. p.0 ≢ c))
image_cases (p ∷ pairs) c = go (p.0 == c) refl (image_cases pairs c)
  where
    go : (b : Bool) → (p.0 == c) ≡ b → All (λ p. p.0 ≢ c) pairs ⊎ Contains pairs (c, image pairs c)
        → All (λ p. p.0 ≢ c) (p ∷ pairs) ⊎ Contains (p ∷ pairs) (c, cond b p.1 (image pairs c))
    go true e r = inr (0, omega arith, ap (λ x. (x, p.1)) (eqb-true p.0 c e))
    go false e (inl h) = inl (All-cons (λ q. q.0 ≢ c) p pairs (eqb-false p.0 c e) h)
    go false e (inr h) = inr (suc h.0, omega (arith, h.1), h.2)

-- ---- laws of one map, at its pairs

-- whether a map applied twice is the map applied once, is seen at the second part of each pair
pub idempotent-at_pairs : (pairs : List (ℕ × ℕ)) → PairsRise pairs
    → All (λ p. (not (image pairs p.1 == p.1) ≡ true → IsIdempotentAt p.0 pairs → ⊥) × (not (image pairs p.1 == p.1) ≡ false → IsIdempotentAt p.0 pairs)) pairs
idempotent-at_pairs pairs rise k d l =
    let p = get_or pairs k d in
    let listed = All-image pairs rise k d l in (
      λ e own. eqb-false (image pairs p.1) p.1 (not-true _ e) (ap (image pairs) (sym listed) ∙ own ∙ listed),
      λ e. ap (image pairs) listed ∙ eqb-true (image pairs p.1) p.1 (not-false _ e) ∙ sym listed,
    )

-- what isn't listed is mapped once and for all
pub idempotent-unlisted : (pairs : List (ℕ × ℕ)) (c : ℕ) → All (λ p. p.0 ≢ c) pairs → IsIdempotentAt c pairs
idempotent-unlisted pairs c h = ap (image pairs) (image-unlisted pairs c h)

-- whether a map takes something else to a surrogate, is seen at each pair
pub surrogates-at_pairs : (pairs : List (ℕ × ℕ)) → PairsRise pairs
    → All (λ p. ((not (is_surrogate p.0) && is_surrogate p.1) ≡ true → AvoidsSurrogates p.0 pairs → ⊥)
    × ((not (is_surrogate p.0) && is_surrogate p.1) ≡ false → AvoidsSurrogates p.0 pairs)) pairs
surrogates-at_pairs pairs rise k d l =
    let p = get_or pairs k d in
    let listed = ap is_surrogate (All-image pairs rise k d l) in (
      λ e avoids. let parts = and_parts (not (is_surrogate p.0)) _ e in
          both_ways _ (avoids (not-true _ parts.0)) (listed ∙ parts.1),
      λ e own. elim (and_cases (not (is_surrogate p.0)) _ e) [
        | inl taken ↦ absurd (both_ways _ own (not-false _ taken))
        | inr free ↦ listed ∙ free
      ],
    )

-- what isn't listed stays what it is
pub surrogates-unlisted : (pairs : List (ℕ × ℕ)) (c : ℕ) → All (λ p. p.0 ≢ c) pairs → AvoidsSurrogates c pairs
surrogates-unlisted pairs c h own = ap is_surrogate (image-unlisted pairs c h) ∙ own

-- ---- a map by halving

module _ {X : Type 0} (xs : List X) (key : X → ℕ)
    (rises : (i j : ℕ) (d : X) → i ≤ j → j < length xs → key (get_or xs i d) ≤ key (get_or xs j d)) (t : ℕ) where
  -- the comparisons of the keys rise along the list
  comparisons_rise : IsNonDecreasingBy (λ x. ordering_index (nat_cmp (key x) t)) xs
  comparisons_rise i j d le l = let keys_rise = rises i j d le l in grind (arith, nat_tests, keys_rise)

  -- where a binary search for a key finds nothing, nothing has it
  pub key-absent : (k : ℕ)
      → (IsNonDecreasingBy (λ x. ordering_index (nat_cmp (key x) t)) xs
      → IsPartitionPoint (λ x. nat_cmp (key x) t ≡ Less) (λ x. nat_cmp (key x) t ≡ Greater) xs k)
      → All (λ x. key x ≢ t) xs
  key-absent k parted i d l same =
      let parts = parted comparisons_rise in
      elim (cases_lt i k) [
        | inl before ↦ omega (arith, ranked _ t _ (sym (parts.0 i d (omega arith) before)))
        | inr behind ↦ omega (arith, ranked _ t _ (sym (parts.1 i d behind l)))
      ]

-- the first parts of pairs in order never fall
pub firsts-rise : (pairs : List (ℕ × ℕ)) → PairsRise pairs → (i j : ℕ) (d : ℕ × ℕ) → i ≤ j → j < length pairs
    → (get_or pairs i d).0 ≤ (get_or pairs j d).0
firsts-rise pairs rise i j d le l =
    grind (arith, PairsRise-at pairs rise i j d, λ (same : i ≡ j). ap (λ k. (get_or pairs k d).0) same)

-- and neither do their pages
pub pages-rise : (pairs : List (ℕ × ℕ)) → PairsRise pairs → (i j : ℕ) (d : ℕ × ℕ) → i ≤ j → j < length pairs
    → (get_or pairs i d).0 / 256 ≤ (get_or pairs j d).0 / 256
pages-rise pairs rise i j d le l = omega (arith, firsts-rise pairs rise i j d le l)

module _ (pairs : List (ℕ × ℕ)) (rise : PairsRise pairs) (c : ℕ) where
  -- what a binary search for c finds is its pair
  pub image-found : (k : ℕ) → k < length pairs → HoldsAt (λ p. nat_cmp p.0 c ≡ Equal) pairs k
      → image pairs c ≡ (get_or pairs k (0, 0)).1
  image-found k l equal =
      let here : (get_or pairs k (0, 0)).0 ≡ c = ranked _ c _ (sym (equal (0, 0))) in
      ap (image pairs) (sym here) ∙ All-image pairs rise k (0, 0) l

  -- where a binary search for c finds nothing, c isn't listed
  pub image-absent : (k : ℕ)
      → (IsNonDecreasingBy (λ p. ordering_index (nat_cmp p.0 c)) pairs
      → IsPartitionPoint (λ p. nat_cmp p.0 c ≡ Less) (λ p. nat_cmp p.0 c ≡ Greater) pairs k)
      → image pairs c ≡ c
  image-absent k parted = image-unlisted pairs c (key-absent pairs (λ p. p.0) (firsts-rise pairs rise) c k parted)
