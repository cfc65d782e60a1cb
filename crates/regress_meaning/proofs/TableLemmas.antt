-- What holds of every number, from finite checks of the lists that a table is made of.
use Rattle.std.proofs.Common.{◌≡◌, ℕ, zero, suc, ◌+◌, ◌<◌, ◌≤◌, ◌⊎◌, Bool, true, false, not, ◌&&◌, ◌||◌, ◌==◌, nat_le, nat_lt, List, [], ◌∷◌, length, All, refl, sym, ap, ◌∙◌, inl, inr, arith, le_refl, le_trans, le_of_eq, if◌then◌else◌, cond}
use Rattle.std.specs.List.{list_all}
use Rattle.std.proofs.lemmas.Bool.{and_parts, and_from, and_left, and_right, or_cases, or_left, or_right, cases_eq, false≢true, eqb-true, eq-eqb, ne_eqb, leb-true, ltb-true, lt-leb, not-true, not_from_true, agree_below, agree_below_at}
use Rattle.std.proofs.lemmas.List.Sums.{AllPass-from_list_all}
use Rattle.regress_meaning.specs.Text.{between, holds}
use Rattle.regress_meaning.specs.Table.{some_below, count_below, closure, code_points, last_code_point}
use Rattle.regress_meaning.specs.Class.{is_letter, is_ascii_word}
use Rattle.regress_meaning.specs.TableParts.{TableParts, IsLawful, small_parts, image, in_intervals, is_code_point, is_surrogate, PairsRise, IntervalsRise, ascii_lower, ascii_upper}

-- two tests that pass together are one
pub same_bool : (a b : Bool) → (a ≡ true → b ≡ true) → (b ≡ true → a ≡ true) → a ≡ b
same_bool true b h k = sym (h refl)
same_bool false true h k = k refl
same_bool false false h k = refl

-- ---- closures

pub some_below-from : (n d : ℕ) (test : ℕ → Bool) → d < n → test d ≡ true → some_below n test ≡ true
unfolding some_below
some_below-from zero d test l e = absurd (omega arith)
some_below-from (suc n) d test l e =
    elim (cases_eq d n) [
      | inl p ↦ or_left _ _ (ap test (sym p) ∙ e)
      | inr ne ↦ or_right _ _ (some_below-from n d test (omega arith) e)
    ]

pub some_below-true : (n : ℕ) (test : ℕ → Bool) → some_below n test ≡ true → (d : ℕ) × (d < n) × (test d ≡ true)
unfolding some_below
some_below-true zero test e = absurd (false≢true e)
some_below-true (suc n) test e =
    elim (or_cases _ _ e) [
      | inl h ↦ (n, le_refl (suc n), h)
      | inr h ↦ let r = some_below-true n test h in (r.0, omega (arith, r.1), r.2)
    ]

-- c has the canon of a member
pub closure-true : (canon_of : ℕ → ℕ) (members : ℕ → Bool) (c : ℕ) → closure canon_of members c ≡ true
    → (d : ℕ) × (d < code_points) × (members d ≡ true) × (canon_of d ≡ canon_of c)
unfolding closure
closure-true canon_of members c e =
    let r = some_below-true _ _ e in
    let parts = and_parts _ _ r.2 in
    (r.0, r.1, parts.0, eqb-true _ _ parts.1)

pub closure-from : (canon_of : ℕ → ℕ) (members : ℕ → Bool) (c d : ℕ)
    → d < code_points → members d ≡ true → canon_of d ≡ canon_of c → closure canon_of members c ≡ true
unfolding closure
closure-from canon_of members c d l m e = some_below-from _ d _ l (and_from _ _ m (eq-eqb _ _ e))

-- the closure of a closed set is that set
pub closure-idempotent : (canon_of : ℕ → ℕ) (members : ℕ → Bool) (c : ℕ)
    → closure canon_of (closure canon_of members) c ≡ closure canon_of members c
closure-idempotent canon_of members c = same_bool _ _
    (λ e. let r = closure-true canon_of (closure canon_of members) c e in
    let s = closure-true canon_of members r.0 r.2 in
    closure-from canon_of members c s.0 s.1 s.2 (s.3 ∙ r.3))
    (λ e. let r = closure-true canon_of members c e in
    let own = closure-from canon_of members r.0 r.0 r.1 r.2 refl in
    closure-from canon_of (closure canon_of members) c r.0 r.1 own r.3)

-- ---- counts

-- what passes the one test passes the other, so no more pass
pub count_below-mono : (n : ℕ) (s t : ℕ → Bool) → ((c : ℕ) → s c ≡ true → t c ≡ true) → count_below n s ≤ count_below n t
unfolding count_below
count_below-mono zero s t h = le_refl 0
count_below-mono (suc n) s t h = go (s n) (t n) (h n) (count_below-mono n s t h)
  where
    go : (a b : Bool) → (a ≡ true → b ≡ true) → {i j : ℕ} → i ≤ j → cond a 1 0 + i ≤ cond b 1 0 + j
    go false b k l = omega arith
    go true true k l = omega arith
    go true false k l = absurd (false≢true (k refl))

count_below-or : (n : ℕ) (s t : ℕ → Bool) → count_below n (λ c. s c || t c) ≤ count_below n s + count_below n t
unfolding count_below
count_below-or zero s t = le_refl 0
count_below-or (suc n) s t = go (s n) (t n) _ _ _ (count_below-or n s t)
  where
    go : (a b : Bool) (i j k : ℕ) → i ≤ j + k → cond (a || b) 1 0 + i ≤ (cond a 1 0 + j) + (cond b 1 0 + k)
    go false false i j k l = omega arith
    go false true i j k l = omega arith
    go true false i j k l = omega arith
    go true true i j k l = omega arith

count_below-none : (n : ℕ) (test : ℕ → Bool) → ((c : ℕ) → c < n → test c ≡ false) → count_below n test ≡ 0
unfolding count_below
count_below-none zero test h = refl
count_below-none (suc n) test h =
    rw (h n (le_refl (suc n))) (omega (arith, count_below-none n test (λ c l. h c (omega arith))))

-- one number is one
count_below-one : (n x : ℕ) → count_below n (λ c. x == c) ≤ 1
unfolding count_below
count_below-one zero x = omega arith
count_below-one (suc n) x = go (x == n) refl (count_below-one n x)
  where
    go : (b : Bool) → (x == n) ≡ b → count_below n (λ c. x == c) ≤ 1 → cond b 1 0 + count_below n (λ c. x == c) ≤ 1
    go true e l =
        let p : x ≡ n = eqb-true x n e in
        omega (arith, count_below-none n (λ c. x == c) (λ c m. ne_eqb x c (λ q. omega arith)))
    go false e l = omega arith

-- as many at most as the list is long
count_below-holds : (n : ℕ) (xs : List ℕ) → count_below n (holds xs) ≤ length xs
count_below-holds n [] = le_of_eq (count_below-none n (holds []) (λ c l. refl))
count_below-holds n (x ∷ xs) =
    omega (arith, count_below-or n (λ c. x == c) (holds xs), count_below-one n x, count_below-holds n xs)

-- ---- maps of case

-- what a map gives is its argument, or the second part of a pair
image_cases : (test : ℕ → Bool) (pairs : List (ℕ × ℕ)) (c : ℕ) → list_all (λ p. test p.1) pairs ≡ true
    → (image pairs c ≡ c) ⊎ (test (image pairs c) ≡ true)
unfolding image
image_cases test [] c e = inl refl
image_cases test (p ∷ pairs) c e =
    let parts = and_parts _ _ e in go (p.0 == c) parts.0 (image_cases test pairs c parts.1)
  where
    go : (b : Bool) → test p.1 ≡ true → (image pairs c ≡ c) ⊎ (test (image pairs c) ≡ true)
        → (cond b p.1 (image pairs c) ≡ c) ⊎ (test (cond b p.1 (image pairs c)) ≡ true)
    go true h r = inr h
    go false h r = r

-- a map that leaves what it maps to as it is
image-idempotent : (pairs : List (ℕ × ℕ)) → list_all (λ p. image pairs p.1 == p.1) pairs ≡ true
    → (c : ℕ) → image pairs (image pairs c) ≡ image pairs c
image-idempotent pairs e c =
    elim (image_cases (λ d. image pairs d == d) pairs c e) [ inl h ↦ ap (image pairs) h | inr h ↦ eqb-true _ _ h ]

-- a map to no surrogate
image-no_surrogate : (pairs : List (ℕ × ℕ)) → list_all (λ p. not (is_surrogate p.1)) pairs ≡ true
    → (c : ℕ) → is_surrogate c ≡ false → is_surrogate (image pairs c) ≡ false
image-no_surrogate pairs e c h =
    elim (image_cases (λ d. not (is_surrogate d)) pairs c e) [ inl k ↦ ap is_surrogate k ∙ h | inr k ↦ not-true _ k ]

-- the first parts of the pairs to d
abbrev sources : ℕ → List (ℕ × ℕ) → List ℕ
sources d [] = []
sources d (p ∷ pairs) = if p.1 == d then p.0 ∷ sources d pairs else sources d pairs

-- what maps to d is d or one of those
image-sources : (pairs : List (ℕ × ℕ)) (d c : ℕ) → image pairs c ≡ d → holds (d ∷ sources d pairs) c ≡ true
unfolding image
image-sources [] d c e = or_left _ _ (eq-eqb d c (sym e))
image-sources (p ∷ pairs) d c e = go (p.0 == c) refl e (image-sources pairs d c)
  where
    put : (b : Bool) → holds (d ∷ sources d pairs) c ≡ true
        → holds (d ∷ cond b (p.0 ∷ sources d pairs) (sources d pairs)) c ≡ true
    put false h = h
    put true h =
        elim (or_cases (d == c) (holds (sources d pairs) c) h) [
          | inl k ↦ or_left _ _ k
          | inr k ↦ or_right (d == c) _ (or_right (p.0 == c) _ k)
        ]

    go : (b : Bool) → (p.0 == c) ≡ b → cond b p.1 (image pairs c) ≡ d
        → (image pairs c ≡ d → holds (d ∷ sources d pairs) c ≡ true) → holds (d ∷ sources d (p ∷ pairs)) c ≡ true
    go true h k r = rw (eq-eqb p.1 d k) (or_right (d == c) _ (or_left _ _ h))
    go false h k r = put (p.1 == d) (r k)

-- there are none of those, or d is the second part of a pair
sources_cases : (test : ℕ → Bool) (pairs : List (ℕ × ℕ)) (d : ℕ) → list_all (λ p. test p.1) pairs ≡ true
    → (sources d pairs ≡ []) ⊎ (test d ≡ true)
sources_cases test [] d e = inl refl
sources_cases test (p ∷ pairs) d e =
    let parts = and_parts _ _ e in go (p.1 == d) refl parts.0 (sources_cases test pairs d parts.1)
  where
    go : (b : Bool) → (p.1 == d) ≡ b → test p.1 ≡ true → (sources d pairs ≡ []) ⊎ (test d ≡ true)
        → (cond b (p.0 ∷ sources d pairs) (sources d pairs) ≡ []) ⊎ (test d ≡ true)
    go true h k r = inr (ap test (sym (eqb-true _ _ h)) ∙ k)
    go false h k r = r

-- where at most three pairs share a second part, at most four numbers have the same image
image-class_size : (pairs : List (ℕ × ℕ)) → list_all (λ p. nat_le (length (sources p.1 pairs)) 3) pairs ≡ true
    → (n d : ℕ) → count_below n (λ c. image pairs c == d) ≤ 4
image-class_size pairs e n d =
    le_trans (count_below-mono n _ (holds (d ∷ sources d pairs)) (λ c h. image-sources pairs d c (eqb-true _ _ h)))
    (le_trans (count_below-holds n (d ∷ sources d pairs)) few)
  where
    few : suc (length (sources d pairs)) ≤ 4
    few = elim (sources_cases (λ x. nat_le (length (sources x pairs)) 3) pairs d e) [
      | inl h ↦ rw h (omega arith)
      | inr h ↦ omega (arith, leb-true _ _ h)
    ]

-- ---- lists in order

abbrev pairs_rise : List (ℕ × ℕ) → Bool
pairs_rise [] = true
pairs_rise (p ∷ []) = true
pairs_rise (p ∷ q ∷ pairs) = nat_lt p.0 q.0 && pairs_rise (q ∷ pairs)

PairsRise-from_test : (pairs : List (ℕ × ℕ)) → pairs_rise pairs ≡ true → PairsRise pairs
PairsRise-from_test [] e = tt
PairsRise-from_test (p ∷ []) e = tt
PairsRise-from_test (p ∷ q ∷ pairs) e =
    let parts = and_parts _ _ e in (ltb-true _ _ parts.0, PairsRise-from_test (q ∷ pairs) parts.1)

abbrev intervals_rise : List (ℕ × ℕ) → Bool
intervals_rise [] = true
intervals_rise (i ∷ []) = nat_le i.0 i.1 && nat_le i.1 last_code_point
intervals_rise (i ∷ j ∷ intervals) = nat_le i.0 i.1 && (nat_lt (i.1 + 1) j.0 && intervals_rise (j ∷ intervals))

IntervalsRise-from_test : (intervals : List (ℕ × ℕ)) → intervals_rise intervals ≡ true → IntervalsRise intervals
IntervalsRise-from_test [] e = tt
IntervalsRise-from_test (i ∷ []) e = let parts = and_parts _ _ e in (leb-true _ _ parts.0, leb-true _ _ parts.1)
IntervalsRise-from_test (i ∷ j ∷ intervals) e =
    let parts = and_parts _ _ e in
    let more = and_parts _ _ parts.1 in
    (leb-true _ _ parts.0, ltb-true _ _ more.0, IntervalsRise-from_test (j ∷ intervals) more.1)

-- the interval holds no surrogate
abbrev beside_surrogates : ℕ × ℕ → Bool
beside_surrogates i = nat_lt i.1 0xD800 || nat_lt 0xDFFF i.0

in_intervals-no_surrogate : (intervals : List (ℕ × ℕ)) (c : ℕ) → list_all beside_surrogates intervals ≡ true
    → in_intervals intervals c ≡ true → is_surrogate c ≡ false
unfolding in_intervals
in_intervals-no_surrogate [] c e h = absurd (false≢true h)
in_intervals-no_surrogate (i ∷ intervals) c e h =
    let parts = and_parts (beside_surrogates i) _ e in
    elim (or_cases (between i.0 i.1 c) _ h) [
      | inl m ↦ here (and_parts (nat_le i.0 c) _ m) (or_cases (nat_lt i.1 0xD800) _ parts.0)
      | inr m ↦ in_intervals-no_surrogate intervals c parts.1 m
    ]
  where
    here : (nat_le i.0 c ≡ true) × (nat_le c i.1 ≡ true) → (nat_lt i.1 0xD800 ≡ true) ⊎ (nat_lt 0xDFFF i.0 ≡ true)
        → is_surrogate c ≡ false
    here m (inl l) = and_left _ _ (lt-leb 0xD800 c (omega (arith, leb-true c i.1 m.1, ltb-true i.1 0xD800 l)))
    here m (inr l) = and_right _ _ (lt-leb c 0xDFFF (omega (arith, leb-true i.0 c m.0, ltb-true 0xDFFF i.0 l)))

-- below 80 the intervals hold only what passes, and they hold no surrogate
identifier_test : (ℕ → Bool) → List (ℕ × ℕ) → Bool
identifier_test passes intervals =
    agree_below (λ c. not (in_intervals intervals c) || passes c) (λ c. true) 0x80
    && list_all beside_surrogates intervals

identifier-part : (passes : ℕ → Bool) (intervals : List (ℕ × ℕ)) → identifier_test passes intervals ≡ true
    → (c : ℕ) → in_intervals intervals c ≡ true → (c < 0x80 → passes c ≡ true) × (is_surrogate c ≡ false)
unfolding identifier_test
identifier-part passes intervals e c h =
    let fits : ℕ → Bool = λ d. not (in_intervals intervals d) || passes d in
    let parts = and_parts (agree_below fits (λ d. true) 0x80) _ e in (
      λ l. elim (or_cases (not (in_intervals intervals c)) _ (agree_below_at fits (λ d. true) 0x80 c parts.0 l)) [
        | inl k ↦ absurd (false≢true (sym (not_from_true _ h) ∙ k))
        | inr k ↦ k
      ],
      in_intervals-no_surrogate intervals c parts.1 h,
    )

-- ---- the laws of a table's parts

All-from_test : {X : Type 0} (P : X → Type 0) (test : X → Bool) → ((x : X) → test x ≡ true → P x)
    → (xs : List X) → list_all test xs ≡ true → All P xs
All-from_test P test f xs e = λ k d l. f _ (AllPass-from_list_all test xs e k d l)

abbrev are_code_points : List ℕ → Bool
are_code_points = list_all (λ c. nat_le c last_code_point)

abbrev pair_of_code_points : ℕ × ℕ → Bool
pair_of_code_points p = nat_le p.0 last_code_point && nat_le p.1 last_code_point

-- what is enough of a map of case
map_test : List (ℕ × ℕ) → Bool
map_test pairs =
    list_all pair_of_code_points pairs
    && (pairs_rise pairs
    && (list_all (λ p. image pairs p.1 == p.1) pairs
    && (list_all (λ p. nat_le (length (sources p.1 pairs)) 3) pairs
    && list_all (λ p. not (is_surrogate p.1)) pairs)))

-- what a map that passes keeps
record IsMap (pairs : List (ℕ × ℕ)) : Type 0 where
  range : All (λ p. is_code_point p.0 × is_code_point p.1) pairs
  order : PairsRise pairs
  idempotent : (c : ℕ) → image pairs (image pairs c) ≡ image pairs c
  class_size : (d : ℕ) → count_below code_points (λ c. image pairs c == d) ≤ 4
  surrogate : (c : ℕ) → is_surrogate c ≡ false → is_surrogate (image pairs c) ≡ false

IsMap-from_test : (pairs : List (ℕ × ℕ)) → map_test pairs ≡ true → IsMap pairs
unfolding map_test
IsMap-from_test pairs e =
    let a = and_parts (list_all pair_of_code_points pairs) _ e in
    let b = and_parts (pairs_rise pairs) _ a.1 in
    let c = and_parts (list_all (λ p. image pairs p.1 == p.1) pairs) _ b.1 in
    let d = and_parts (list_all (λ p. nat_le (length (sources p.1 pairs)) 3) pairs) _ c.1 in
    record {
      range = All-from_test (λ p. is_code_point p.0 × is_code_point p.1) pair_of_code_points
          (λ p h. let r = and_parts (nat_le p.0 last_code_point) _ h in (leb-true _ _ r.0, leb-true _ _ r.1)) pairs a.0;
      order = PairsRise-from_test pairs b.0;
      idempotent = image-idempotent pairs c.0;
      class_size = image-class_size pairs d.0 code_points;
      surrogate = image-no_surrogate pairs d.1;
    }

-- below 80 the maps are ASCII's
ascii_test : TableParts → ℕ → Bool
ascii_test parts c = (image parts.fold c == ascii_lower c) && (image parts.upper c == ascii_upper c)

-- what is enough of a table's parts
parts_test : TableParts → Bool
parts_test parts =
    map_test parts.fold
    && (map_test parts.upper
    && (list_all (λ e. list_all are_code_points e.1) parts.sequences
    && (agree_below (ascii_test parts) (λ c. true) 0x80
    && (intervals_rise parts.id_start
    && (intervals_rise parts.id_continue
    && (list_all (λ e. intervals_rise e.1) parts.properties
    && (identifier_test is_letter parts.id_start
    && identifier_test is_ascii_word parts.id_continue)))))))

-- parts that pass keep all laws
IsLawful-from_test : (parts : TableParts) → parts_test parts ≡ true → IsLawful parts
unfolding parts_test ascii_test
IsLawful-from_test parts e =
    let a = and_parts (map_test parts.fold) _ e in
    let b = and_parts (map_test parts.upper) _ a.1 in
    let c = and_parts (list_all (λ e. list_all are_code_points e.1) parts.sequences) _ b.1 in
    let d = and_parts (agree_below (ascii_test parts) (λ c. true) 0x80) _ c.1 in
    let f = and_parts (intervals_rise parts.id_start) _ d.1 in
    let g = and_parts (intervals_rise parts.id_continue) _ f.1 in
    let h = and_parts (list_all (λ e. intervals_rise e.1) parts.properties) _ g.1 in
    let i = and_parts (identifier_test is_letter parts.id_start) _ h.1 in
    let fold = IsMap-from_test parts.fold a.0 in
    let upper = IsMap-from_test parts.upper b.0 in
    record {
      range = (
        (fold.range, upper.range),
        All-from_test (λ e. All (All is_code_point) e.1) (λ e. list_all are_code_points e.1)
            (λ e. All-from_test (All is_code_point) are_code_points
            (All-from_test is_code_point (λ c. nat_le c last_code_point) (λ c. leb-true c last_code_point)) e.1)
            parts.sequences c.0,
      );
      order = (fold.order, upper.order);
      ascii_case = λ k l.
          let passed = agree_below_at (ascii_test parts) (λ c. true) 0x80 k d.0 l in
          let r = and_parts (image parts.fold k == ascii_lower k) _ passed in
          (eqb-true _ _ r.0, eqb-true _ _ r.1);
      idempotent = (fold.idempotent, upper.idempotent);
      class_size = (fold.class_size, upper.class_size);
      surrogate = (fold.surrogate, upper.surrogate);
      canonical = (
        IntervalsRise-from_test parts.id_start f.0,
        IntervalsRise-from_test parts.id_continue g.0,
        All-from_test (λ e. IntervalsRise e.1) (λ e. intervals_rise e.1) (λ e. IntervalsRise-from_test e.1)
            parts.properties h.0,
      );
      identifier = λ k.
          (identifier-part is_letter parts.id_start i.0 k, identifier-part is_ascii_word parts.id_continue i.1 k);
    }

small_parts-pass : parts_test small_parts ≡ true
unfolding parts_test map_test ascii_test identifier_test image in_intervals
small_parts-pass = refl

-- the small table is lawful
pub small_parts-lawful : IsLawful small_parts
small_parts-lawful = IsLawful-from_test small_parts small_parts-pass
