-- The places of numbers in lists that strictly rise.
use Rattle.std.proofs.Common.{◌≡◌, ◌≢◌, ℕ, zero, suc, ◌+◌, ◌/◌, ◌<◌, ◌≤◌, ◌==◌, false, List, [], ◌∷◌, length, get_or, All, refl, sym, ap, ◌∙◌, ◌⊎◌, inl, inr, arith}
use Rattle.std.specs.List.{AllPairs, HoldsAt}
use Rattle.std.specs.List.Sorted.{IsStrictlyIncreasing, IsNonDecreasingBy, IsPartitionPoint}
use Rattle.std.specs.Ordering.{nat_cmp, ordering_index}
use Rattle.std.specs.declared.cmp.Ordering.TheVariants.{Less, Equal, Greater}
use Rattle.std.proofs.lemmas.Bool.{eq-eqb, ne_eqb, cases_eq}
use Rattle.std.proofs.lemmas.List.Elements.{All-nil, All-cons, All-head, All-tail}
use Rattle.std.proofs.lemmas.List.Kept.{AllPairs-from_increasing}
use Rattle.std.proofs.lemmas.Cmp.{ranked}
use Rattle.regress_meaning.specs.Table.{code_points}
use Rattle.regress_meaning.specs.TableParts.{is_code_point}
use Rattle.regress_front_tables.specs.Folding.{place_in}
use Rattle.regress_front_tables.proofs.ImageLemmas.{key-absent}

-- the first has the place 1
place_in-head : (x : ℕ) (xs : List ℕ) (c : ℕ) → x ≡ c → place_in (x ∷ xs) c ≡ 1
unfolding place_in
place_in-head x xs c e = rw (eq-eqb x c e) refl

-- what is in the rest is one further
place_in-tail : (x : ℕ) (xs : List ℕ) (c k : ℕ) → x ≢ c → place_in xs c ≡ k + 1 → place_in (x ∷ xs) c ≡ suc k + 1
unfolding place_in
place_in-tail x xs c k ne e =
    let some : (place_in xs c == 0) ≡ false = ne_eqb (place_in xs c) 0 (λ z. omega (arith, z, e)) in
    rw (ne_eqb x c ne, some) (omega (arith, e))

-- what is in neither has none
place_in-none : (x : ℕ) (xs : List ℕ) (c : ℕ) → x ≢ c → place_in xs c ≡ 0 → place_in (x ∷ xs) c ≡ 0
unfolding place_in
place_in-none x xs c ne e = rw (ne_eqb x c ne, eq-eqb (place_in xs c) 0 e) refl

-- a number that isn't there has no place
pub place_in-absent : (xs : List ℕ) (c : ℕ) → All (λ d. d ≢ c) xs → place_in xs c ≡ 0
unfolding place_in
place_in-absent [] c h = refl
place_in-absent (x ∷ xs) c h =
    place_in-none x xs c (All-head (λ d. d ≢ c) x xs h) (place_in-absent xs c (All-tail (λ d. d ≢ c) x xs h))

-- and one that is there has its place
place_in-pairs : (xs : List ℕ) (c k : ℕ) → AllPairs (λ x y. x < y) xs → k < length xs → get_or xs k 0 ≡ c → place_in xs c ≡ k + 1
place_in-pairs [] c k rise l e = absurd (omega (arith, l))
place_in-pairs (x ∷ xs) c zero rise l e = place_in-head x xs c e
place_in-pairs (x ∷ xs) c (suc k) rise l e =
    place_in-tail x xs c k (λ same. omega (arith, rise 0 (suc k) 0 (omega arith) l, same, e))
    (place_in-pairs xs c k (λ i j d m n. rise (suc i) (suc j) d (omega (arith, m)) (omega (arith, n))) (omega (arith, l)) e)

pub place_in-at : (xs : List ℕ) (c k : ℕ) → IsStrictlyIncreasing xs → k < length xs → get_or xs k 0 ≡ c → place_in xs c ≡ k + 1
place_in-at xs c k rise = place_in-pairs xs c k (AllPairs-from_increasing xs rise)

-- a number has no place and isn't there, or it stands at its place
pub place_cases : (xs : List ℕ) (c : ℕ)
    → ((place_in xs c ≡ 0) × All (λ d. d ≢ c) xs)
    ⊎ ((k : ℕ) × (place_in xs c ≡ k + 1) × (k < length xs) × (get_or xs k 0 ≡ c))
unfolding place_in
place_cases [] c = inl (refl, All-nil (λ d. d ≢ c))
place_cases (x ∷ xs) c = elim (cases_eq x c) [
  | inl e ↦ inr (0, place_in-head x xs c e, omega arith, e)
  | inr ne ↦ elim (place_cases xs c) [
    | inl absent ↦ inl (place_in-none x xs c ne absent.0, All-cons (λ d. d ≢ c) x xs ne absent.1)
    | inr there ↦ inr (suc there.0, place_in-tail x xs c there.0 ne there.1, omega (arith, there.2), there.3)
  ]
]

-- ---- searches

-- numbers that strictly rise never fall
numbers-rise : (xs : List ℕ) → IsStrictlyIncreasing xs → (i j d : ℕ) → i ≤ j → j < length xs → get_or xs i d ≤ get_or xs j d
numbers-rise xs rise i j d le l = elim (cases_eq i j) [
  | inl e ↦ omega (arith, ap (λ k. get_or xs k d) e)
  | inr ne ↦ omega (arith, AllPairs-from_increasing xs rise i j d (omega (arith, le, ne)) l)
]

-- and neither do their pages
pages-rise : (xs : List ℕ) → IsStrictlyIncreasing xs → (i j d : ℕ) → i ≤ j → j < length xs → get_or xs i d / 256 ≤ get_or xs j d / 256
pages-rise xs rise i j d le l = omega (arith, numbers-rise xs rise i j d le l)

module _ (xs : List ℕ) (rise : IsStrictlyIncreasing xs) (c k : ℕ) where
  -- what a binary search finds stands there
  pub place_in-found : k < length xs → HoldsAt (λ y. nat_cmp y c ≡ Equal) xs k → place_in xs c ≡ k + 1
  place_in-found l equal = place_in-at xs c k rise l (ranked _ c _ (sym (equal 0)))

  -- and what it doesn't find stands nowhere
  pub place_in-missed : (IsNonDecreasingBy (λ x. ordering_index (nat_cmp x c)) xs
      → IsPartitionPoint (λ x. nat_cmp x c ≡ Less) (λ x. nat_cmp x c ≡ Greater) xs k) → place_in xs c ≡ 0
  place_in-missed parted = place_in-absent xs c (key-absent xs (λ x. x) (numbers-rise xs rise) c k parted)

  -- nor does what lies in a page of which it finds nothing
  pub place_in-unpaged : (n : ℕ) → c / 256 ≡ n
      → (IsNonDecreasingBy (λ x. ordering_index (nat_cmp (x / 256) n)) xs
      → IsPartitionPoint (λ x. nat_cmp (x / 256) n ≡ Less) (λ x. nat_cmp (x / 256) n ≡ Greater) xs k)
      → place_in xs c ≡ 0
  place_in-unpaged n e parted =
      let absent = key-absent xs (λ x. x / 256) (pages-rise xs rise) n k parted in
      place_in-absent xs c (λ i d l same. absent i d l (ap (λ x. x / 256) same ∙ e))

-- ---- how many there are

-- numbers that rise from a on, below n, are at most n - a
rising-room : (xs : List ℕ) (a n : ℕ) → AllPairs (λ x y. x < y) xs → All (λ x. (a ≤ x) × (x < n)) xs → a ≤ n → length xs + a ≤ n
rising-room [] a n rise within le = omega (arith, le)
rising-room (x ∷ xs) a n rise within le =
    let first = All-head (λ y. (a ≤ y) × (y < n)) x xs within in
    let rest = rising-room xs (x + 1) n (λ i j d m l. rise (suc i) (suc j) d (omega (arith, m)) (omega (arith, l)))
    (λ k d l. (omega (arith, rise 0 (suc k) d (omega arith) (omega (arith, l))), (within (suc k) d (omega (arith, l))).1))
    (omega (arith, first.1)) in
    omega (arith, rest, first.0)

-- code points that rise are no more than there are
pub rising-few : (xs : List ℕ) → IsStrictlyIncreasing xs → All (λ c. is_code_point c) xs → length xs ≤ code_points
rising-few xs rise range =
    let room = rising-room xs 0 code_points (AllPairs-from_increasing xs rise) (λ k d l. (omega arith, omega (arith, range k d l))) (omega arith) in
    omega (arith, room)
