-- What maps of case gather: closures, and the code points with one image.
use Rattle.std.proofs.Common.{◌≡◌, ℕ, zero, suc, ◌+◌, ◌-◌, ◌<◌, ◌≤◌, ◌==◌, ◌&&◌, ◌||◌, nat_le, nat_lt, Bool, true, false, cond, List, [], ◌∷◌, length, get_or, take, filter, map, All, Contains, Some, None, Result, Ok, Err, refl, sym, ap, ap₂, ◌∙◌, subst, inl, inr, arith}
use Rattle.std.specs.List.{AllPairs, insert, list_any}
use Rattle.std.specs.List.Sorted.{IsStrictlyIncreasing, IsBinarySearchResult}
use Rattle.std.specs.Ordering.{nat_cmp}
use Rattle.std.specs.Result.{MatchResult}
use Rattle.std.proofs.lemmas.Bool.{and_parts, and_from, or_cases, or_left, or_right, cases_eq, cases_lt, both_ways, false≢true, eqb-true, eq-eqb, ne_eqb, leb-true, le-leb}
use Rattle.std.proofs.lemmas.List.{get_or-map, length-map, map-append, take_more}
use Rattle.std.proofs.lemmas.List.Edits.{length-insert, get_or-insert_below, get_or-insert_at, get_or-insert_above}
use Rattle.std.proofs.lemmas.List.Elements.{All-contains}
use Rattle.std.proofs.lemmas.List.Folds.{Any-from_list_any, list_any_at, list_any_none, list_any_more, list_any-append}
use Rattle.std.proofs.lemmas.List.Kept.{AllPairs-filter, AllPairs-from_increasing}
use Rattle.std.proofs.lemmas.List.Sorted.{IsPermutation-insert, list_any-IsPermutation, searched}
use Rattle.std.proofs.lemmas.Bool.Decides.{nat_tests}
use Rattle.regress_meaning.specs.Text.{holds, between}
use Rattle.regress_meaning.specs.Table.{count_below, closure, code_points, last_code_point}
use Rattle.regress_meaning.specs.TableParts.{image, PairsRise, is_code_point, in_intervals}
use Rattle.regress_front_sets.specs.declared.interval.Interval.{Interval}
use Rattle.regress_front_sets.specs.Intervals.{ends, ends_of, in_interval}
use Rattle.regress_front_tables.specs.Folding.{Lists, IsCaseMap, IsClass, Unites}
use Rattle.regress_meaning.proofs.TableLemmas.{same_bool, closure-true, closure-from, count_below-mono}
use Rattle.regress_front_tables.proofs.ClassLemmas.{count_below-same}
use Rattle.regress_front_tables.proofs.ImageLemmas.{PairsRise-at, image-listed, image-unlisted, image_cases}

-- ---- closures

module _ (map_of : ℕ → ℕ) where
  -- nothing is asked of what doesn't pass
  pub Unites-none : (test old new : ℕ → Bool) → ((c : ℕ) → test c ≡ false) → ((c : ℕ) → new c ≡ old c) → Unites map_of test old new
  Unites-none test old new none same = record {
    keeps = λ c m. same c ∙ m;
    inside = λ c m. inl (sym (same c) ∙ m);
    all = λ d t c e. absurd (both_ways _ (none d) t);
  }

  -- it is the same of tests that agree
  pub Unites-same : (s t old new : ℕ → Bool) → ((c : ℕ) → s c ≡ t c) → Unites map_of s old new → Unites map_of t old new
  Unites-same s t old new same h = record {
    keeps = h.keeps;
    inside = λ c m. elim (h.inside c m) [
      | inl own ↦ inl own
      | inr from ↦ inr (from.0, sym (same from.0) ∙ from.1, from.2)
    ];
    all = λ d passes c e. h.all d (same d ∙ passes) c e;
  }

  -- what passes and is alone with its image has nothing to take in
  pub Unites-alone : (test old : ℕ → Bool) → ((d : ℕ) → test d ≡ true → old d ≡ true)
      → ((d c : ℕ) → test d ≡ true → map_of c ≡ map_of d → c ≡ d) → Unites map_of test old old
  Unites-alone test old within alone = record {
    keeps = λ c m. m;
    inside = λ c m. inl m;
    all = λ d t c e. ap old (alone d c t e) ∙ within d t;
  }

  -- what passes one test or another is taken in one after the other
  pub Unites-both : (s t u old mid new : ℕ → Bool) → ((c : ℕ) → u c ≡ (s c || t c)) → Unites map_of s old mid → Unites map_of t mid new
      → Unites map_of u old new
  Unites-both s t u old mid new either h k = record {
    keeps = λ c m. k.keeps c (h.keeps c m);
    inside = λ c m. elim (k.inside c m) [
      | inl before ↦ elim (h.inside c before) [
        | inl first ↦ inl first
        | inr from ↦ inr (from.0, either from.0 ∙ or_left (s from.0) (t from.0) from.1, from.2)
      ]
      | inr from ↦ inr (from.0, either from.0 ∙ or_right (s from.0) (t from.0) from.1, from.2)
    ];
    all = λ d passes c e. elim (or_cases (s d) (t d) (sym (either d) ∙ passes)) [
      | inl first ↦ k.keeps c (h.all d first c e)
      | inr second ↦ k.all d second c e
    ];
  }

  -- a set that has taken in the classes of all its members is its closure
  pub closure-united : (members new : ℕ → Bool) → ((c : ℕ) → members c ≡ true → c < code_points) → Unites map_of members members new
      → (c : ℕ) → new c ≡ closure map_of members c
  closure-united members new bounded h c = same_bool _ _
      (λ m. elim (h.inside c m) [
        | inl own ↦ closure-from map_of members c c (bounded c own) own refl
        | inr from ↦ closure-from map_of members c from.0 (bounded from.0 from.1) from.1 from.2
      ])
      (λ m. let r = closure-true map_of members c m in h.all r.0 r.2 c (sym r.3))

-- ---- numbers below a bound that pass

-- one more number is one more
count_below-cons : (n x : ℕ) (t : ℕ → Bool) → x < n → t x ≡ false → count_below n (λ c. x == c || t c) ≡ suc (count_below n t)
unfolding count_below
count_below-cons zero x t l h = absurd (omega arith)
count_below-cons (suc n) x t l h =
    elim (cases_eq x n) [
      | inl e ↦
          let here : (x == n) ≡ true = eq-eqb x n e in
          let none : t n ≡ false = ap t (sym e) ∙ h in
          let rest = count_below-same n (λ c. x == c || t c) t (λ c m. ap (λ b. b || t c) (ne_eqb x c (λ q. omega arith))) in
          rw (here, none) (omega (arith, rest))
      | inr ne ↦
          let other : (x == n) ≡ false = ne_eqb x n ne in
          rw other (omega (arith, count_below-cons n x t (omega arith) h))
    ]

-- ---- numbers that strictly rise

-- below a bound there are as many numbers as numbers that rise hold
length-rising : (n : ℕ) (cs : List ℕ) → AllPairs (λ x y. x < y) cs → All (λ c. c < n) cs → length cs ≤ count_below n (holds cs)
length-rising n [] rise below = omega arith
length-rising n (x ∷ cs) rise below =
    let fresh : holds cs x ≡ false = list_any_none (λ d. d == x) cs (λ k d l. ne_eqb _ x (λ e. omega (arith, rise 0 (suc k) d (omega arith) (omega arith)))) in
    let rest = length-rising n cs (λ i j d l m. rise (suc i) (suc j) d (omega arith) (omega arith)) (λ k d l. below (suc k) d (omega arith)) in
    omega (arith, rest, count_below-cons n x (holds cs) (below 0 0 (omega arith)) fresh)

-- a list of the code points that pass is as long as there are such
pub length-Lists : (test : ℕ → Bool) (cs : List ℕ) → Lists test cs → length cs ≤ count_below code_points test
length-Lists test cs h =
    let passes = λ (c : ℕ) (m : holds cs c ≡ true). and_parts (nat_le c last_code_point) (test c) (sym (h.members c) ∙ m) in
    let own = λ (k d : ℕ) (l : k < length cs). list_any_at (λ x. x == get_or cs k d) cs k d l (eq-eqb _ _ refl) in
    let within = length-rising code_points cs (AllPairs-from_increasing cs h.rises) (λ k d l. omega (arith, leb-true _ _ (passes _ (own k d l)).0)) in
    omega (arith, within, count_below-mono code_points (holds cs) test (λ c m. (passes c m).1))

-- a code point that passes is listed
pub Lists-own : (test : ℕ → Bool) (cs : List ℕ) (c : ℕ) → Lists test cs → c ≤ last_code_point → test c ≡ true → holds cs c ≡ true
Lists-own test cs c h l e = h.members c ∙ and_from _ _ (le-leb c last_code_point l) e

-- a list that holds something is not empty
pub length-holding : (cs : List ℕ) (c : ℕ) → holds cs c ≡ true → 0 < length cs
length-holding [] c h = absurd (false≢true h)
length-holding (x ∷ cs) c h = omega arith

-- what rises still does after an insert between what is lower and what is higher
IsStrictlyIncreasing-insert : (xs : List ℕ) (i y : ℕ) → IsStrictlyIncreasing xs → i ≤ length xs
    → ((k : ℕ) → k < i → get_or xs k 0 < y) → ((k : ℕ) → i ≤ k → k < length xs → y < get_or xs k 0)
    → IsStrictlyIncreasing (insert xs i y)
IsStrictlyIncreasing-insert xs i y rise le low high k l =
    let len = length-insert xs i y le in
    elim (cases_lt (k + 1) i) [
      | inl before ↦
          rw (get_or-insert_below xs i y 0 k (omega arith) le, get_or-insert_below xs i y 0 (k + 1) before le) (rise k (omega arith))
      | inr behind ↦ elim (cases_eq (k + 1) i) [
        | inl e ↦
            let at : get_or (insert xs i y) (k + 1) 0 ≡ y = ap (λ j. get_or (insert xs i y) j 0) e ∙ get_or-insert_at xs i y 0 le in
            rw (get_or-insert_below xs i y 0 k (omega arith) le, at) (low k (omega arith))
        | inr ne ↦ elim (cases_eq k i) [
          | inl e ↦
              let at : get_or (insert xs i y) k 0 ≡ y = ap (λ j. get_or (insert xs i y) j 0) e ∙ get_or-insert_at xs i y 0 le in
              rw (at, get_or-insert_above xs i y 0 k (omega arith) le) (high k (omega arith) (omega (arith, len)))
          | inr past ↦
              let at : get_or (insert xs i y) k 0 ≡ get_or xs (k - 1) 0 =
              ap (λ j. get_or (insert xs i y) j 0) (omega arith) ∙ get_or-insert_above xs i y 0 (k - 1) (omega arith) le in
              let next : get_or xs ((k - 1) + 1) 0 ≡ get_or xs k 0 = ap (λ j. get_or xs j 0) (omega arith) in
              rw (at, get_or-insert_above xs i y 0 k (omega arith) le) (rw next at (rise (k - 1) (omega (arith, len))))
        ]
      ]
    ]

-- ---- the code points with one image

-- the first parts of the pairs to d
abbrev pub sources : ℕ → List (ℕ × ℕ) → List ℕ
sources d pairs = map (λ p. p.0) (filter (λ p. p.1 == d) pairs)

-- they rise as the pairs do
pub sources-rise : (pairs : List (ℕ × ℕ)) (d : ℕ) → PairsRise pairs → IsStrictlyIncreasing (sources d pairs)
sources-rise pairs d rise k l =
    let kept = filter (λ (p : ℕ × ℕ). p.1 == d) pairs in
    let len : length (sources d pairs) ≡ length kept = length-map kept (λ p. p.0) in
    rw (get_or-map (λ p. p.0) kept k (0, 0) 0 (omega arith), get_or-map (λ p. p.0) kept (k + 1) (0, 0) 0 (omega arith))
    (AllPairs-filter (λ p q. p.0 < q.0) (λ p. p.1 == d) pairs (PairsRise-at pairs rise) k (k + 1) (0, 0) (omega arith) (omega arith))

-- c is among them where the pair (c, d) is listed
holds-sources : (pairs : List (ℕ × ℕ)) (d c : ℕ) → holds (sources d pairs) c ≡ list_any (λ p. (p.1 == d) && (p.0 == c)) pairs
holds-sources [] d c = refl
holds-sources (p ∷ pairs) d c = go (p.1 == d) (holds-sources pairs d c)
  where
    go : (b : Bool) → holds (sources d pairs) c ≡ list_any (λ q. (q.1 == d) && (q.0 == c)) pairs
        → holds (map (λ q. q.0) (cond b (p ∷ filter (λ q. q.1 == d) pairs) (filter (λ q. q.1 == d) pairs))) c
        ≡ ((b && (p.0 == c)) || list_any (λ q. (q.1 == d) && (q.0 == c)) pairs)
    go true h = ap (λ b. (p.0 == c) || b) h
    go false h = h

source-listed : (pairs : List (ℕ × ℕ)) (d c : ℕ) → holds (sources d pairs) c ≡ true → Contains pairs (c, d)
source-listed pairs d c h =
    let r = Any-from_list_any (λ p. (p.1 == d) && (p.0 == c)) pairs (sym (holds-sources pairs d c) ∙ h) in
    let parts = and_parts (r.1.1 == d) _ r.4 in
    let is : r.1 ≡ (c, d) = ap₂ (λ a b. (a, b)) (eqb-true r.1.0 c parts.1) (eqb-true r.1.1 d parts.0) in
    (r.0, r.2, ap (get_or pairs r.0) (sym is) ∙ r.3 ∙ is)

listed-source : (pairs : List (ℕ × ℕ)) (d c : ℕ) → Contains pairs (c, d) → holds (sources d pairs) c ≡ true
listed-source pairs d c listed =
    holds-sources pairs d c ∙ list_any_at (λ p. (p.1 == d) && (p.0 == c)) pairs listed.0 (c, d) listed.1
    (ap (λ p. (p.1 == d) && (p.0 == c)) listed.2 ∙ and_from _ _ (eq-eqb d d refl) (eq-eqb c c refl))

module _ (pairs : List (ℕ × ℕ)) (lawful : IsCaseMap pairs) (a : ℕ) (bound : a ≤ last_code_point) where
  -- the image of a code point is one
  image-bounded : image pairs a ≤ last_code_point
  image-bounded = elim (image_cases pairs a) [
    | inl unlisted ↦ omega (arith, image-unlisted pairs a unlisted)
    | inr listed ↦ (All-contains (λ p. is_code_point p.0 × is_code_point p.1) pairs (a, image pairs a) lawful.range listed).1
  ]

  -- what shares an image with a code point is one
  sharing-bounded : (c : ℕ) → image pairs c ≡ image pairs a → c ≤ last_code_point
  sharing-bounded c e = elim (image_cases pairs c) [
    | inl unlisted ↦ omega (arith, image-unlisted pairs c unlisted, image-bounded)
    | inr listed ↦ (All-contains (λ p. is_code_point p.0 × is_code_point p.1) pairs (c, image pairs c) lawful.range listed).0
  ]

  -- what shares the image is the image or one of its sources
  image-members : (c : ℕ) → (image pairs a == c || holds (sources (image pairs a) pairs) c)
      ≡ (nat_le c last_code_point && (image pairs c == image pairs a))
  image-members c = same_bool _ _
      (λ m. let e : image pairs c ≡ image pairs a = elim (or_cases (image pairs a == c) _ m) [
        | inl own ↦ ap (image pairs) (sym (eqb-true (image pairs a) c own)) ∙ lawful.idempotent a
        | inr listed ↦ image-listed pairs c (image pairs a) lawful.order (source-listed pairs (image pairs a) c listed)
      ] in
      and_from _ _ (le-leb c last_code_point (sharing-bounded c e)) (eq-eqb _ _ e))
      (λ m. let e = eqb-true (image pairs c) (image pairs a) (and_parts (nat_le c last_code_point) _ m).1 in
      elim (image_cases pairs c) [
        | inl unlisted ↦ or_left _ _ (eq-eqb (image pairs a) c (sym e ∙ image-unlisted pairs c unlisted))
        | inr listed ↦ or_right (image pairs a == c) _
            (listed-source pairs (image pairs a) c (let P : ℕ → Type 0 = λ d. Contains pairs (c, d) in subst P e listed))
      ])

  -- where the image is one of its sources, these are all
  Lists-found : (i : ℕ) → i < length (sources (image pairs a) pairs) → get_or (sources (image pairs a) pairs) i 0 ≡ image pairs a
      → Lists (λ c. image pairs c == image pairs a) (sources (image pairs a) pairs)
  Lists-found i l e =
      let own : holds (sources (image pairs a) pairs) (image pairs a) ≡ true =
      list_any_at (λ d. d == image pairs a) (sources (image pairs a) pairs) i 0 l (eq-eqb _ _ e) in record {
        rises = sources-rise pairs (image pairs a) lawful.order;
        members = λ c. elim (cases_eq (image pairs a) c) [
          | inl same ↦ ap (holds (sources (image pairs a) pairs)) (sym same) ∙ own
              ∙ sym (or_left _ (holds (sources (image pairs a) pairs) c) (eq-eqb (image pairs a) c same)) ∙ image-members c
          | inr other ↦ sym (ap (λ b. b || holds (sources (image pairs a) pairs) c) (ne_eqb (image pairs a) c other)) ∙ image-members c
        ];
      }

  -- and else they are all with the image at its place
  Lists-inserted : (i : ℕ) → i ≤ length (sources (image pairs a) pairs)
      → ((k : ℕ) → k < i → get_or (sources (image pairs a) pairs) k 0 < image pairs a)
      → ((k : ℕ) → i ≤ k → k < length (sources (image pairs a) pairs) → image pairs a < get_or (sources (image pairs a) pairs) k 0)
      → Lists (λ c. image pairs c == image pairs a) (insert (sources (image pairs a) pairs) i (image pairs a))
  Lists-inserted i l low high = record {
    rises = IsStrictlyIncreasing-insert _ i (image pairs a) (sources-rise pairs (image pairs a) lawful.order) l low high;
    members = λ c. sym (list_any-IsPermutation (λ d. d == c) _ _ (IsPermutation-insert (sources (image pairs a) pairs) i (image pairs a)))
        ∙ image-members c;
  }

  -- what a search among the sources for the image says of both
  pub Lists-searched : (r : Result ℕ ℕ)
      → IsBinarySearchResult (λ d. nat_cmp d (image pairs a)) (sources (image pairs a) pairs) r
      → MatchResult r (λ i. Lists (λ c. image pairs c == image pairs a) (sources (image pairs a) pairs))
      (λ i. Lists (λ c. image pairs c == image pairs a) (insert (sources (image pairs a) pairs) i (image pairs a)))
  Lists-searched r found = go r (searched _ (image pairs a) r found (λ i j le l. elim (cases_eq i j) [
    | inl e ↦ omega (arith, ap (λ k. get_or (sources (image pairs a) pairs) k 0) e)
    | inr ne ↦ omega (arith, AllPairs-from_increasing _ (sources-rise pairs (image pairs a) lawful.order) i j 0 (omega arith) l)
  ]))
    where
      go : (r : Result ℕ ℕ) → MatchResult r (λ i. (i < length (sources (image pairs a) pairs)) × (get_or (sources (image pairs a) pairs) i 0 ≡ image pairs a))
          (λ i. (i ≤ length (sources (image pairs a) pairs)) × ((k : ℕ) → k < i → get_or (sources (image pairs a) pairs) k 0 < image pairs a)
          × ((k : ℕ) → i ≤ k → k < length (sources (image pairs a) pairs) → image pairs a < get_or (sources (image pairs a) pairs) k 0))
          → MatchResult r (λ i. Lists (λ c. image pairs c == image pairs a) (sources (image pairs a) pairs))
          (λ i. Lists (λ c. image pairs c == image pairs a) (insert (sources (image pairs a) pairs) i (image pairs a)))
      go (Ok i) h = Lists-found i h.0 h.1
      go (Err i) h = Lists-inserted i h.0 h.1 h.2

-- what a class is told to be, for a code point with its image
pub Lists-told : (pairs : List (ℕ × ℕ)) (c : ℕ) (members : List ℕ) → IsClass (image pairs) (image pairs c) (Some members)
    → Lists (λ d. image pairs d == image pairs c) members
Lists-told pairs c members h = h

-- a code point that nothing else has the image of is all there is
pub Lists-alone : (pairs : List (ℕ × ℕ)) (c : ℕ) → c ≤ last_code_point → IsClass (image pairs) (image pairs c) None
    → Lists (λ d. image pairs d == image pairs c) (c ∷ [])
Lists-alone pairs c bound alone = record {
  rises = λ k l. absurd (omega (arith, l));
  members = λ d. same_bool _ _
      (λ m. let e : c ≡ d = elim (or_cases (c == d) false m) [
        | inl own ↦ eqb-true c d own
        | inr none ↦ absurd (false≢true none)
      ] in
      and_from _ _ (le-leb d last_code_point (omega (arith, bound, e))) (eq-eqb _ _ (ap (image pairs) (sym e))))
      (λ m. let same = eqb-true (image pairs d) (image pairs c) (and_parts (nat_le d last_code_point) _ m).1 in
      or_left (c == d) false (eq-eqb c d (alone c refl ∙ sym (alone d same))));
}

-- at least one code point has the image of a code point, and at most four
pub Lists-few : (pairs : List (ℕ × ℕ)) → IsCaseMap pairs → (c : ℕ) (cs : List ℕ) → c ≤ last_code_point
    → Lists (λ d. image pairs d == image pairs c) cs → (0 < length cs) × (length cs ≤ 4)
Lists-few pairs lawful c cs bound h =
    let own = Lists-own _ cs c h bound (eq-eqb _ _ refl) in
    (length-holding cs c own, omega (arith, length-Lists _ cs h, lawful.class_size (image pairs c)))

-- ---- classes that are taken in

-- each member of a class is a code point
pub Lists-bounded : (test : ℕ → Bool) (cs : List ℕ) → Lists test cs → (k : ℕ) → k < length cs → get_or cs k 0 ≤ last_code_point
Lists-bounded test cs h k l =
    let own = list_any_at (λ x. x == get_or cs k 0) cs k 0 l (eq-eqb _ _ refl) in
    leb-true _ _ (and_parts (nat_le (get_or cs k 0) last_code_point) _ (sym (h.members _) ∙ own)).0

-- what has been taken in is the class
pub Unites-class : (pairs : List (ℕ × ℕ)) → IsCaseMap pairs → (c : ℕ) (members : List ℕ) (old new : ℕ → Bool) → c ≤ last_code_point
    → Lists (λ d. image pairs d == image pairs c) members → ((d : ℕ) → new d ≡ (old d || holds members d))
    → Unites (image pairs) (λ d. d == c) old new
Unites-class pairs lawful c members old new bound h taken = record {
  keeps = λ d m. taken d ∙ or_left (old d) (holds members d) m;
  inside = λ d m. elim (or_cases (old d) (holds members d) (sym (taken d) ∙ m)) [
    | inl own ↦ inl own
    | inr listed ↦
        let same = eqb-true _ _ (and_parts (nat_le d last_code_point) _ (sym (h.members d) ∙ listed)).1 in
        inr (c, eq-eqb c c refl, sym same)
  ];
  all = λ d passes x e.
      let same : image pairs x ≡ image pairs c = e ∙ ap (image pairs) (eqb-true d c passes) in
      let small = sharing-bounded pairs lawful c bound x same in
      taken x ∙ or_right (old x) (holds members x) (h.members x ∙ and_from _ _ (le-leb x last_code_point small) (eq-eqb _ _ same));
}

-- what is alone with its image needs nothing
pub Unites-no_class : (pairs : List (ℕ × ℕ)) (c : ℕ) (old : ℕ → Bool) → old c ≡ true → IsClass (image pairs) (image pairs c) None
    → Unites (image pairs) (λ d. d == c) old old
Unites-no_class pairs c old own alone =
    Unites-alone (image pairs) (λ d. d == c) old (λ d t. ap old (eqb-true d c t) ∙ own)
    (λ d x t e. let same = eqb-true d c t in alone x (e ∙ ap (image pairs) same) ∙ sym (alone c refl) ∙ sym same)

-- one number more of a list
holds-more : (cs : List ℕ) (k d : ℕ) → k < length cs → holds (take (k + 1) cs) d ≡ (holds (take k cs) d || get_or cs k 0 == d)
holds-more cs k d l = list_any_more (λ x. x == d) cs k 0 l

-- an alternative that never holds may be left out
pub or_none : (b : Bool) → (b || false) ≡ b
or_none true = refl
or_none false = refl

-- a test of an alternative may be split either way
pub or_split : (a b c : Bool) → ((a || b) || c) ≡ (a || (b || c))
or_split true b c = refl
or_split false b c = refl

module _ (s added old : ℕ → Bool) (cs : List ℕ) (k : ℕ) (l : k < length cs)
    (so_far : (d : ℕ) → (s d || added d) ≡ ((s d || old d) || holds (take k cs) d)) where
  -- a member is taken in
  pub member-added : (newer : ℕ → Bool) → ((d : ℕ) → newer d ≡ (added d || d == get_or cs k 0))
      → (d : ℕ) → (s d || newer d) ≡ ((s d || old d) || holds (take (k + 1) cs) d)
  member-added newer more d =
      let turned : (d == get_or cs k 0) ≡ (get_or cs k 0 == d) = grind (arith, nat_tests) in
      ap (λ b. s d || b) (more d) ∙ sym (or_split (s d) (added d) (d == get_or cs k 0))
      ∙ ap₂ (λ a b. a || b) (so_far d) turned ∙ or_split (s d || old d) (holds (take k cs) d) (get_or cs k 0 == d)
      ∙ ap (λ b. (s d || old d) || b) (sym (holds-more cs k d l))

  -- or it is there
  pub member-there : s (get_or cs k 0) ≡ true → (d : ℕ) → (s d || added d) ≡ ((s d || old d) || holds (take (k + 1) cs) d)
  member-there own d = so_far d ∙ elim (cases_eq (get_or cs k 0) d) [
    | inl e ↦
        let here : (s d || old d) ≡ true = or_left (s d) (old d) (ap s (sym e) ∙ own) in
        or_left _ (holds (take k cs) d) here ∙ sym (or_left _ (holds (take (k + 1) cs) d) here)
    | inr ne ↦
        let same : holds (take (k + 1) cs) d ≡ holds (take k cs) d =
        holds-more cs k d l ∙ ap (λ b. holds (take k cs) d || b) (ne_eqb _ d ne) ∙ or_none (holds (take k cs) d) in
        ap (λ b. (s d || old d) || b) (sym same)
  ]

-- ---- the code points of an interval, in order

module _ (first last c d : ℕ) where
  -- up to a further place there are those before and those from here on
  pub walk-further : (next : ℕ) → c ≤ next
      → (between first last d && nat_lt d next) ≡ ((between first last d && nat_lt d c) || ((between first last d && nat_le c d) && nat_lt d next))
  walk-further next le = grind (arith, nat_tests)

  -- up to the next there is one more
  pub walk-on : first ≤ c → c ≤ last → (between first last d && nat_lt d (c + 1)) ≡ ((between first last d && nat_lt d c) || d == c)
  walk-on low high = grind (arith, nat_tests)

  -- and at last there are all
  pub walk-all : last < c → (between first last d && nat_lt d c) ≡ between first last d
  walk-all past = grind (arith, nat_tests)

-- ---- the intervals of a set, one by one

-- one interval more
pub in_intervals-more : (intervals : List Interval) (k : ℕ) (i : Interval) (c : ℕ) → k < length intervals
    → in_intervals (ends_of (take (k + 1) intervals)) c ≡ (in_intervals (ends_of (take k intervals)) c || in_interval (get_or intervals k i) c)
unfolding in_intervals
in_intervals-more intervals k i c l =
    let one = get_or intervals k i in
    rw (take_more intervals k i l, map-append ends (take k intervals) (one ∷ []), list_any-append (λ p. between p.0 p.1 c) (ends_of (take k intervals)) (ends_of (one ∷ [])))
    (ap (λ b. in_intervals (ends_of (take k intervals)) c || b) (or_none (in_interval one c)))

-- what lies in one of the intervals lies in them
pub in_intervals-at : (intervals : List Interval) (k : ℕ) (i : Interval) (c : ℕ) → k < length intervals
    → in_interval (get_or intervals k i) c ≡ true → in_intervals (ends_of intervals) c ≡ true
unfolding in_intervals
in_intervals-at intervals k i c l inside =
    let one = get_or-map ends intervals k i (0, 0) l in
    list_any_at (λ p. between p.0 p.1 c) (ends_of intervals) k (0, 0) (omega (arith, l, length-map intervals ends))
    (ap (λ (p : ℕ × ℕ). between p.0 p.1 c) one ∙ inside)

-- ---- the maps of lawful parts
