-- How many code points have the same image.
use Rattle.std.proofs.Common.{◌≡◌, ◌≢◌, ℕ, zero, suc, ◌+◌, ◌<◌, ◌≤◌, ◌==◌, ◌&&◌, not, nat_lt, Bool, true, false, cond, List, [], ◌∷◌, length, get_or, All, None, unwrap_or, refl, sym, ap, ◌∙◌, inl, inr, arith, le_refl}
use Rattle.std.specs.Prelude.{count_by}
use Rattle.std.specs.List.{find}
use Rattle.std.specs.List.Sorted.{IsStrictlySortedBy}
use Rattle.std.specs.Map.{keys_of}
use Rattle.std.specs.Ordering.{nat_cmp, is_eq}
use Rattle.std.specs.BTreeMap as tree
use Rattle.std.specs.Option.{option_map}
use Rattle.std.proofs.lemmas.Bool.{eqb-true, eq-eqb, ne_eqb, cases_eq, cases_lt, cases_Bool, ltb-true, ltb-false, lt-ltb, le-ltb, and_parts, and_left, and_right, not_from_true}
use Rattle.std.proofs.lemmas.Bool.Decides.{nat_tests}
use Rattle.std.proofs.lemmas.Cmp.{ranked, nat_cmp_total}
use Rattle.std.proofs.lemmas.List.Elements.{All-head, All-tail, recursion_from_All}
use Rattle.std.proofs.lemmas.List.Sums.{sum_by-cons}
use Rattle.std.proofs.lemmas.Map.{lookup-none}
use Rattle.std.proofs.lemmas.Map.Entries.{btree_map_get_place}
use Rattle.std.proofs.lemmas.Option.{slice_get-get_or}
use Rattle.regress_meaning.specs.Table.{count_below, code_points}
use Rattle.regress_meaning.specs.TableParts.{image, PairsRise, IsIdempotentAt, HasSmallClass, is_code_point}
use Rattle.regress_front_tables.specs.Telling.{TellsLeast, others_to}
use Rattle.regress_front_tables.proofs.ImageLemmas.{PairsRise-tail, PairsRise-above, image-unlisted, All-image}
use Rattle.regress_front_tables.proofs.TellingLemmas.{TellsLeast-find}

-- ---- how many numbers pass

-- one where it is true
abbrev one_if : Bool → ℕ
one_if b = cond b 1 0

-- none are below 0
count_below-zero : (test : ℕ → Bool) → count_below 0 test ≡ 0
unfolding count_below
count_below-zero test = refl

-- n passes, or not
count_below-suc : (n : ℕ) (test : ℕ → Bool) → count_below (suc n) test ≡ one_if (test n) + count_below n test
unfolding count_below
count_below-suc n test = refl

-- tests that agree below n let as many pass
pub count_below-same : (n : ℕ) (s t : ℕ → Bool) → ((c : ℕ) → c < n → s c ≡ t c) → count_below n s ≡ count_below n t
count_below-same zero s t h = count_below-zero s ∙ sym (count_below-zero t)
count_below-same (suc n) s t h =
    let here : one_if (s n) ≡ one_if (t n) = ap (λ b. one_if b) (h n (le_refl (suc n))) in
    let rest = count_below-same n s t (λ c l. h c (omega arith)) in
    omega (arith, count_below-suc n s, count_below-suc n t)

-- tests that agree but at k: what passes differs at k
count_below-changed : (n k : ℕ) (s t : ℕ → Bool) → k < n → ((c : ℕ) → c ≢ k → s c ≡ t c)
    → count_below n s + one_if (t k) ≡ count_below n t + one_if (s k)
count_below-changed zero k s t l h = absurd (omega arith)
count_below-changed (suc n) k s t l h =
    elim (cases_eq k n) [
      | inl same ↦
          let rest = count_below-same n s t (λ c m. h c (λ e. omega arith)) in
          let at_s : one_if (s k) ≡ one_if (s n) = ap (λ x. one_if (s x)) same in
          let at_t : one_if (t k) ≡ one_if (t n) = ap (λ x. one_if (t x)) same in
          omega (arith, count_below-suc n s, count_below-suc n t)
      | inr other ↦
          let here : one_if (s n) ≡ one_if (t n) = ap (λ b. one_if b) (h n (λ e. other (sym e))) in
          let rest = count_below-changed n k s t (omega arith) h in
          omega (arith, count_below-suc n s, count_below-suc n t)
    ]

-- one number, where it is below n
count_below-one : (n d : ℕ) → count_below n (λ c. c == d) ≡ one_if (nat_lt d n)
count_below-one zero d = count_below-zero (λ c. c == d) ∙ none
  where
    none : 0 ≡ one_if (nat_lt d 0)
    none = rw (le-ltb d 0 (omega arith))
count_below-one (suc n) d =
    count_below-suc n (λ c. c == d) ∙ ap (λ k. one_if (n == d) + k) (count_below-one n d) ∙ step
  where
    step : one_if (n == d) + one_if (nat_lt d n) ≡ one_if (nat_lt d (suc n))
    step = grind (arith, nat_tests)

-- ---- how many elements pass

count_by-cons : {X : Type 0} (test : X → Bool) (x : X) (xs : List X) → count_by test (x ∷ xs) ≡ one_if (test x) + count_by test xs
count_by-cons test x xs = sum_by-cons (λ y. one_if (test y)) x xs

-- where none passes, none is counted
count_by-none : {X : Type 0} (test : X → Bool) (xs : List X) → All (λ x. test x ≡ false) xs → count_by test xs ≡ 0
count_by-none test [] h = refl
count_by-none test (x ∷ xs) h =
    let here : one_if (test x) ≡ 0 = ap one_if (All-head (λ y. test y ≡ false) x xs h) in
    let rest = count_by-none test xs (All-tail (λ y. test y ≡ false) x xs h) in
    omega (arith, count_by-cons test x xs)

-- where some are counted, one passes
count_by-some : {X : Type 0} (test : X → Bool) (xs : List X) → 0 < count_by test xs
    → (k : ℕ) × (k < length xs) × ((d : X) → test (get_or xs k d) ≡ true)
count_by-some test [] h = absurd (omega arith)
count_by-some test (x ∷ xs) h =
    elim (cases_Bool (test x)) [
      | inl passes ↦ (zero, omega arith, λ d. passes)
      | inr fails ↦
          let here : one_if (test x) ≡ 0 = ap one_if fails in
          let rest = count_by-some test xs (omega (arith, count_by-cons test x xs)) in
          (suc rest.0, omega (arith, rest.1), rest.2)
    ]

-- ---- the class of an image

-- how many pairs take d to something else
abbrev moves_of : List (ℕ × ℕ) → ℕ → ℕ
moves_of pairs d = count_by (λ p. p.0 == d && not (p.0 == p.1)) pairs

-- a pair moves d, or it takes something else there, or neither
pair_step : (a b d : ℕ) → one_if (b == d) + one_if (a == d && not (a == b)) ≡ one_if (a == d) + one_if (b == d && not (a == b))
pair_step a b d = grind (arith, nat_tests)

-- The numbers below n with the image d are those that the pairs take there, and d itself, unless a pair takes it away.
class_size : (n d : ℕ) (pairs : List (ℕ × ℕ)) → PairsRise pairs → All (λ p. p.0 < n) pairs
    → count_below n (λ c. image pairs c == d) + moves_of pairs d ≡ one_if (nat_lt d n) + others_to pairs d
unfolding image
class_size n d [] rise small = omega (arith, count_below-one n d)
class_size n d (p ∷ pairs) rise small =
    let more = class_size n d pairs (PairsRise-tail p pairs rise) (All-tail (λ q. q.0 < n) p pairs small) in
    let changed = count_below-changed n p.0 (λ c. cond (p.0 == c) p.1 (image pairs c) == d) (λ c. image pairs c == d)
    (All-head (λ q. q.0 < n) p pairs small)
    (λ c other. ap (λ b. cond b p.1 (image pairs c) == d) (ne_eqb p.0 c (λ e. other (sym e)))) in
    let own : image pairs p.0 ≡ p.0 = image-unlisted pairs p.0 (λ k e l same. omega (arith, PairsRise-above p pairs rise k e l)) in
    let here : one_if (image pairs p.0 == d) ≡ one_if (p.0 == d) = ap (λ x. one_if (x == d)) own in
    let there : one_if (cond (p.0 == p.0) p.1 (image pairs p.0) == d) ≡ one_if (p.1 == d) =
    ap (λ b. one_if (cond b p.1 (image pairs p.0) == d)) (eq-eqb p.0 p.0 refl) in
    omega (
      arith,
      pair_step p.0 p.1 d,
      count_by-cons (λ q. q.0 == d && not (q.0 == q.1)) p pairs,
      count_by-cons (λ q. q.1 == d && not (q.0 == q.1)) p pairs,
    )

-- no pair takes d away where d maps to itself
moves-none : (pairs : List (ℕ × ℕ)) (d : ℕ) → PairsRise pairs → image pairs d ≡ d → moves_of pairs d ≡ 0
moves-none pairs d rise own = count_by-none (λ p. p.0 == d && not (p.0 == p.1)) pairs stays
  where
    stays : All (λ p. (p.0 == d && not (p.0 == p.1)) ≡ false) pairs
    stays k e l =
        let p = get_or pairs k e in
        elim (cases_eq p.0 d) [
          | inl same ↦
              let second : p.1 ≡ p.0 = sym (All-image pairs rise k e l) ∙ ap (image pairs) same ∙ own ∙ sym same in
              and_right (p.0 == d) _ (not_from_true _ (eq-eqb p.0 p.1 (sym second)))
          | inr other ↦ and_left _ _ (ne_eqb p.0 d other)
        ]

module _ (pairs : List (ℕ × ℕ)) (rise : PairsRise pairs) (range : All (λ p. is_code_point p.0 × is_code_point p.1) pairs) where
  -- the size of the class of d
  class_size_of : (d : ℕ) → count_below code_points (λ c. image pairs c == d) + moves_of pairs d ≡ one_if (nat_lt d code_points) + others_to pairs d
  class_size_of d = class_size code_points d pairs rise (λ k e l. let small = (range k e l).0 in omega arith)

  -- a class is small where few others have the image
  HasSmallClass-from_few : (d : ℕ) → others_to pairs d ≤ 3 → HasSmallClass d pairs
  HasSmallClass-from_few d few = omega (arith, class_size_of d, at_most_one (nat_lt d code_points))
    where
      at_most_one : (b : Bool) → one_if b ≤ 1
      at_most_one true = omega arith
      at_most_one false = omega arith

  -- and only there, where a map applied twice is the map applied once
  few-from_small_class : ((c : ℕ) → IsIdempotentAt c pairs) → (d : ℕ) → HasSmallClass d pairs → others_to pairs d ≤ 3
  few-from_small_class idempotent d small =
      elim (cases_lt 3 (others_to pairs d)) [
        | inl many ↦ absurd (too_many many (count_by-some (λ p. p.1 == d && not (p.0 == p.1)) pairs (omega arith)))
        | inr few ↦ few
      ]
    where
      too_many : 3 < others_to pairs d
          → (k : ℕ) × (k < length pairs) × ((e : ℕ × ℕ) → ((get_or pairs k e).1 == d && not ((get_or pairs k e).0 == (get_or pairs k e).1)) ≡ true)
          → ⊥
      too_many many found =
          let p = get_or pairs found.0 (0, 0) in
          let second : p.1 ≡ d = eqb-true p.1 d (and_parts (p.1 == d) _ (found.2 (0, 0))).0 in
          let listed = All-image pairs rise found.0 (0, 0) found.1 in
          let own : image pairs d ≡ d =
          ap (image pairs) (sym second ∙ sym listed) ∙ idempotent p.0 ∙ listed ∙ second in
          let bounded = (range found.0 (0, 0) found.1).1 in
          let one : one_if (nat_lt d code_points) ≡ 1 = ap one_if (lt-ltb d code_points (omega arith)) in
          omega (arith, class_size_of d, moves-none pairs d rise own)

-- ---- classes counted in a map

-- another key isn't found
is_eq-apart : (c k : ℕ) → k ≢ c → is_eq (nat_cmp c k) ≡ false
is_eq-apart c k other = grind (arith, nat_tests)

-- the entries of a map in order rise
PairsRise-from_ordered : (entries : List (ℕ × ℕ)) → IsStrictlySortedBy nat_cmp (keys_of entries) → PairsRise entries
unfolding IsStrictlySortedBy
PairsRise-from_ordered [] ordered = tt
PairsRise-from_ordered (p ∷ []) ordered = tt
PairsRise-from_ordered (p ∷ q ∷ entries) ordered =
    (ranked p.0 q.0 _ (sym ordered.0.0), PairsRise-from_ordered (q ∷ entries) ordered.1)

-- Where the entries are the sizes of the classes, the first above four is of the least class that is too large.
pub TellsLeast-classes : (pairs : List (ℕ × ℕ)) → PairsRise pairs → All (λ p. is_code_point p.0 × is_code_point p.1) pairs
    → ((c : ℕ) → IsIdempotentAt c pairs)
    → (sizes : tree.BTreeMap ℕ ℕ) → tree.IsOrdered nat_cmp sizes
    → ((d : ℕ) → unwrap_or (tree.get nat_cmp sizes d) 1 ≡ 1 + others_to pairs d)
    → TellsLeast (option_map (λ e. e.0) (find (λ e. nat_lt 4 e.1) sizes.entries)) (λ d. HasSmallClass d pairs)
TellsLeast-classes pairs rise range idempotent sizes ordered counts =
    TellsLeast-find (λ d. HasSmallClass d pairs) (λ e. nat_lt 4 e.1) sizes.entries (PairsRise-from_ordered sizes.entries ordered) unlisted decides
  where
    unlisted : (c : ℕ) → All (λ e. e.0 ≢ c) sizes.entries → HasSmallClass c pairs
    unlisted c h =
        let absent : tree.get nat_cmp sizes c ≡ None =
        lookup-none (λ k. is_eq (nat_cmp c k)) sizes.entries (recursion_from_All (λ e. is_eq (nat_cmp c e.0) ≡ false) sizes.entries (λ k e l. is_eq-apart c _ (h k e l))) in
        let none : 1 ≡ 1 + others_to pairs c = rw absent at (counts c) in
        HasSmallClass-from_few pairs rise range c (omega arith)

    decides : All (λ e. (nat_lt 4 e.1 ≡ true → HasSmallClass e.0 pairs → ⊥) × (nat_lt 4 e.1 ≡ false → HasSmallClass e.0 pairs)) sizes.entries
    decides k d l =
        let e = get_or sizes.entries k d in
        let stored = btree_map_get_place nat_cmp_total sizes k e.0 e.1 ordered (slice_get-get_or sizes.entries k d l) in
        let size : e.1 ≡ 1 + others_to pairs e.0 = rw stored at (counts e.0) in (
          λ large small. omega (arith, ltb-true 4 e.1 large, few-from_small_class pairs rise range idempotent e.0 small),
          λ few. HasSmallClass-from_few pairs rise range e.0 (omega (arith, ltb-false 4 e.1 few)),
        )
