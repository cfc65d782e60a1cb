-- What pairs list, and what pages that were made of them tell.
use Rattle.std.proofs.Common.{◌≡◌, ◌≢◌, ℕ, zero, suc, ◌+◌, ◌-◌, ◌/◌, ◌<◌, ◌≤◌, ◌==◌, false, List, [], ◌∷◌, length, get_or, All, refl, sym, ap, ◌∙◌, inl, inr, arith}
use Rattle.std.specs.List.Sorted.{IsNonDecreasingBy, IsPartitionPoint}
use Rattle.std.specs.List.{HoldsAt}
use Rattle.std.specs.Ordering.{nat_cmp, ordering_index}
use Rattle.std.specs.declared.cmp.Ordering.TheVariants.{Less, Equal, Greater}
use Rattle.std.proofs.lemmas.Bool.{eq-eqb, ne_eqb, cases_eq}
use Rattle.std.proofs.lemmas.Cmp.{ranked}
use Rattle.std.proofs.lemmas.List.Elements.{All-nil, All-cons, All-head, All-tail}
use Rattle.regress_meaning.specs.Table.{last_code_point, code_points}
use Rattle.regress_meaning.specs.TableParts.{image, is_code_point, PairsRise}
use Rattle.regress_front_tables.specs.declared.tables.pages.Pages.{Pages}
use Rattle.regress_front_tables.specs.Folding.{IsCaseMap}
use Rattle.regress_front_tables.specs.CaseMaps.{listed_image, pairs_told, told_at, pairs_in}
use Rattle.regress_front_tables.proofs.ImageLemmas.{PairsRise-tail, PairsRise-above, key-absent, firsts-rise, pages-rise}

-- what the first pair is of
listed-here : (p : ℕ × ℕ) (pairs : List (ℕ × ℕ)) (c : ℕ) → p.0 ≡ c → listed_image (p ∷ pairs) c ≡ p.1 + 1
unfolding listed_image
listed-here p pairs c e = rw (eq-eqb p.0 c e) refl

-- and anything else
listed-further : (p : ℕ × ℕ) (pairs : List (ℕ × ℕ)) (c : ℕ) → p.0 ≢ c → listed_image (p ∷ pairs) c ≡ listed_image pairs c
unfolding listed_image
listed-further p pairs c ne = rw (ne_eqb p.0 c ne) refl

-- what isn't listed has no image of its own
pub listed-absent : (pairs : List (ℕ × ℕ)) (c : ℕ) → All (λ p. p.0 ≢ c) pairs → listed_image pairs c ≡ 0
unfolding listed_image
listed-absent [] c h = refl
listed-absent (p ∷ pairs) c h =
    rw (ne_eqb p.0 c (All-head (λ q. q.0 ≢ c) p pairs h))
    (listed-absent pairs c (All-tail (λ q. q.0 ≢ c) p pairs h))

-- what is listed has its second part
All-listed : (pairs : List (ℕ × ℕ)) → PairsRise pairs → All (λ p. listed_image pairs p.0 ≡ p.1 + 1) pairs
All-listed [] rise = All-nil (λ p. listed_image [] p.0 ≡ p.1 + 1)
All-listed (p ∷ pairs) rise =
    All-cons (λ q. listed_image (p ∷ pairs) q.0 ≡ q.1 + 1) p pairs
    (listed-here p pairs p.0 refl)
    (λ k d l. let q = get_or pairs k d in
    let other : p.0 ≢ q.0 = λ same. omega (arith, PairsRise-above p pairs rise k d l, same) in
    listed-further p pairs q.0 other ∙ All-listed pairs (PairsRise-tail p pairs rise) k d l)

-- what has no image of its own is its image
pub image-untold : (pairs : List (ℕ × ℕ)) (c : ℕ) → listed_image pairs c ≡ 0 → image pairs c ≡ c
unfolding image
image-untold [] c none = refl
image-untold (p ∷ pairs) c none = elim (cases_eq p.0 c) [
  | inl e ↦ absurd (omega (arith, none, listed-here p pairs c e))
  | inr ne ↦ rw (ne_eqb p.0 c ne) (image-untold pairs c (sym (listed-further p pairs c ne) ∙ none))
]

-- and what has one has that
pub image-told : (pairs : List (ℕ × ℕ)) (c k : ℕ) → listed_image pairs c ≡ k → 0 < k → image pairs c ≡ k - 1
unfolding image
image-told [] c k told some = absurd (omega (arith, told, listed-absent [] c (All-nil (λ p. p.0 ≢ c)), some))
image-told (p ∷ pairs) c k told some = elim (cases_eq p.0 c) [
  | inl e ↦ rw (eq-eqb p.0 c e) (omega (arith, told, listed-here p pairs c e))
  | inr ne ↦ rw (ne_eqb p.0 c ne) (image-told pairs c k (sym (listed-further p pairs c ne) ∙ told) some)
]

module _ (pairs : List (ℕ × ℕ)) (rise : PairsRise pairs) (c : ℕ) where
  -- what a binary search for c finds is its pair
  pub listed-found : (k : ℕ) → k < length pairs → HoldsAt (λ p. nat_cmp p.0 c ≡ Equal) pairs k
      → listed_image pairs c ≡ (get_or pairs k (0, 0)).1 + 1
  listed-found k l equal =
      let here : (get_or pairs k (0, 0)).0 ≡ c = ranked _ c _ (sym (equal (0, 0))) in
      ap (listed_image pairs) (sym here) ∙ All-listed pairs rise k (0, 0) l

  -- where a binary search for c finds nothing, c isn't listed
  pub listed-missed : (k : ℕ)
      → (IsNonDecreasingBy (λ p. ordering_index (nat_cmp p.0 c)) pairs
      → IsPartitionPoint (λ p. nat_cmp p.0 c ≡ Less) (λ p. nat_cmp p.0 c ≡ Greater) pairs k)
      → listed_image pairs c ≡ 0
  listed-missed k parted = listed-absent pairs c (key-absent pairs (λ p. p.0) (firsts-rise pairs rise) c k parted)

  -- where a binary search for its page finds nothing, neither
  pub listed-unpaged : (k n : ℕ) → c / 256 ≡ n
      → (IsNonDecreasingBy (λ p. ordering_index (nat_cmp (p.0 / 256) n)) pairs
      → IsPartitionPoint (λ p. nat_cmp (p.0 / 256) n ≡ Less) (λ p. nat_cmp (p.0 / 256) n ≡ Greater) pairs k)
      → listed_image pairs c ≡ 0
  listed-unpaged k n e parted =
      let absent = key-absent pairs (λ p. p.0 / 256) (pages-rise pairs rise) n k parted in
      listed-absent pairs c (λ i d l same. absent i d l (ap (λ x. x / 256) same ∙ e))

-- past the code points nothing is listed
pub listed-past : (pairs : List (ℕ × ℕ)) → All (λ p. is_code_point p.0 × is_code_point p.1) pairs → (c : ℕ) → last_code_point < c
    → listed_image pairs c ≡ 0
listed-past pairs range c past = listed-absent pairs c (λ k d l same. omega (arith, (range k d l).0, same, past))

-- a code point of which nothing is told
told-none : (told : ℕ → ℕ) (c n : ℕ) → told c ≡ 0 → pairs_told told c (suc n) ≡ pairs_told told (suc c) n
unfolding pairs_told
told-none told c n e = rw (eq-eqb (told c) 0 e) refl

-- and one of which an image is
told-some : (told : ℕ → ℕ) (c n d : ℕ) → told c ≡ d + 1 → pairs_told told c (suc n) ≡ (c, d) ∷ pairs_told told (suc c) n
unfolding pairs_told
told-some told c n d e =
    let some : (told c == 0) ≡ false = ne_eqb (told c) 0 (λ z. omega (arith, z, e)) in
    let image : told c - 1 ≡ d = omega (arith, e) in
    rw (some, image) refl

-- Where what is told is what pairs list, it gives just these pairs.
pairs_told-listed : (told : ℕ → ℕ) (n c : ℕ) (pairs : List (ℕ × ℕ)) → PairsRise pairs → All (λ p. (c ≤ p.0) × (p.0 < c + n)) pairs
    → ((d : ℕ) → c ≤ d → told d ≡ listed_image pairs d) → pairs_told told c n ≡ pairs
unfolding pairs_told
pairs_told-listed told zero c [] rise within same = refl
pairs_told-listed told zero c (p ∷ pairs) rise within same = absurd (omega (arith, within 0 p (omega arith)))
pairs_told-listed told (suc n) c [] rise within same =
    told-none told c n (same c (omega arith) ∙ listed-absent [] c (All-nil (λ p. p.0 ≢ c)))
    ∙ pairs_told-listed told n (suc c) [] rise (All-nil (λ p. (suc c ≤ p.0) × (p.0 < suc c + n))) (λ d above. same d (omega (arith, above)))
pairs_told-listed told (suc n) c (p ∷ pairs) rise within same =
    let InNext : ℕ × ℕ → Type 0 = λ q. (suc c ≤ q.0) × (q.0 < suc c + n) in
    let first = within 0 p (omega arith) in
    let behind : All (λ q. (p.0 < q.0) × (q.0 < suc c + n)) pairs =
    λ k d l. (PairsRise-above p pairs rise k d l, omega (arith, (within (suc k) d (omega (arith, l))).1)) in
    elim (cases_eq p.0 c) [
      | inl e ↦
          let next : All InNext pairs = λ k d l. (omega (arith, (behind k d l).0, e), (behind k d l).1) in
          told-some told c n p.1 (same c (omega arith) ∙ listed-here p pairs c e)
          ∙ ap (λ d. (d, p.1) ∷ pairs_told told (suc c) n) (sym e)
          ∙ ap (λ rest. p ∷ rest) (pairs_told-listed told n (suc c) pairs (PairsRise-tail p pairs rise) next
          (λ d above. same d (omega (arith, above)) ∙ listed-further p pairs d (λ is. omega (arith, is, e, above))))
      | inr ne ↦
          let none : All (λ q. q.0 ≢ c) (p ∷ pairs) =
          All-cons (λ q. q.0 ≢ c) p pairs ne (λ k d l is. omega (arith, (behind k d l).0, first.0, is)) in
          let next : All InNext (p ∷ pairs) =
          All-cons InNext p pairs (omega (arith, first.0, ne), omega (arith, first.1)) (λ k d l. (omega (arith, (behind k d l).0, first.0), (behind k d l).1)) in
          told-none told c n (same c (omega arith) ∙ listed-absent (p ∷ pairs) c none)
          ∙ pairs_told-listed told n (suc c) (p ∷ pairs) rise next (λ d above. same d (omega (arith, above)))
    ]

-- pages that tell what pairs list stand for these
pub pairs_in-listed : (images : Pages) (pairs : List (ℕ × ℕ)) → IsCaseMap pairs → ((c : ℕ) → told_at images c ≡ listed_image pairs c)
    → pairs_in images ≡ pairs
unfolding pairs_in
pairs_in-listed images pairs lawful told =
    pairs_told-listed (told_at images) code_points 0 pairs lawful.order (λ k d l. (omega arith, omega (arith, (lawful.range k d l).0))) (λ d _. told d)
