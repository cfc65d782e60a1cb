-- When a bracket holds no code point.
use Rattle.std.proofs.Common.{◌≡◌, ℕ, zero, suc, ◌+◌, ◌<◌, ◌≤◌, Bool, true, false, not, ◌==◌, nat_eq, List, [], ◌∷◌, length, refl, sym, ap, ◌∙◌, inl, inr, arith}
use Rattle.std.proofs.lemmas.Bool.{or_left, or_right, false≢true, cases_eq, cases_lt, lt-ltb, le-ltb, eq-eqb, ne_eqb}
use Rattle.std.proofs.lemmas.Bool.Decides.{nat_tests}
use Rattle.std.proofs.lemmas.List.{length-append}
use Rattle.regress_meaning.specs.Table.{code_points, some_below}
use Rattle.regress_meaning.specs.TableParts.{in_intervals, IntervalsRise}
use Rattle.regress_front_sets.specs.Intervals.{gap, gaps_from, inverse}
use Rattle.regress_front_nodes.specs.TreeMeaning.{bracket_has}
use Rattle.regress_front_nodes.specs.Singles.{bracket_is_empty}
use Rattle.regress_meaning.proofs.TableLemmas.{some_below-from}
use Rattle.regress_front_sets.proofs.IntervalLemmas.{between-within, between-outside, IntervalsRise-first, IntervalsRise-rest}

some_below-none : (n : ℕ) (test : ℕ → Bool) → ((d : ℕ) → d < n → test d ≡ false) → some_below n test ≡ false
unfolding some_below
some_below-none zero test h = refl
some_below-none (suc n) test h = rw (h n (omega arith)) (some_below-none n test (λ d l. h d (omega arith)))

is_false : (b : Bool) → (b ≡ true → ⊥) → b ≡ false
is_false true h = absurd (h refl)
is_false false h = refl

pub some_below-fails : (n d : ℕ) (test : ℕ → Bool) → some_below n test ≡ false → d < n → test d ≡ false
some_below-fails n d test none l = is_false (test d) (λ h. false≢true (sym none ∙ some_below-from n d test l h))

-- the first interval begins at a or above
abbrev pub BeginsFrom : ℕ → List (ℕ × ℕ) → Type 0
BeginsFrom a [] = Unit {0}
BeginsFrom a (i ∷ xs) = a ≤ i.0

rise-next : (i : ℕ × ℕ) (xs : List (ℕ × ℕ)) → IntervalsRise (i ∷ xs) → BeginsFrom (i.1 + 1) xs
rise-next i [] h = tt
rise-next i (j ∷ xs) h = omega (arith, h.1)

-- below the first interval is no member
misses-below : (xs : List (ℕ × ℕ)) (a c : ℕ) → IntervalsRise xs → BeginsFrom a xs → c < a → in_intervals xs c ≡ false
unfolding in_intervals
misses-below [] a c rise from l = refl
misses-below (i ∷ xs) a c rise from l =
    rw (between-outside i.0 i.1 c (inl (omega (arith, from))))
    (misses-below xs (i.1 + 1) c (IntervalsRise-rest i xs rise) (rise-next i xs rise) (omega (arith, from, (IntervalsRise-first i xs rise).0)))

-- no gap: each number from a on is a member
covers : (xs : List (ℕ × ℕ)) (a c : ℕ) → length (gaps_from a xs) ≡ 0 → a ≤ c → c < code_points → in_intervals xs c ≡ true
unfolding in_intervals gaps_from
covers [] a c none from below =
    elim (cases_lt a code_points) [
      | inl l ↦ absurd (let e : length (gap a code_points) ≡ 1 = rw (lt-ltb a code_points l) refl in omega (arith, none, e))
      | inr m ↦ absurd (omega (arith, m))
    ]
covers (i ∷ xs) a c none from below =
    elim (cases_lt a i.0) [
      | inl l ↦ absurd (let e : length (gap a i.0) ≡ 1 = rw (lt-ltb a i.0 l) refl in omega (arith, none, e, length-append (gap a i.0) (gaps_from (i.1 + 1) xs)))
      | inr m ↦ elim (cases_lt i.1 c) [
        | inl l ↦ or_right _ _ (covers xs (i.1 + 1) c (omega (arith, none, length-append (gap a i.0) (gaps_from (i.1 + 1) xs))) (omega arith) below)
        | inr k ↦ or_left _ _ (between-within i.0 i.1 c (omega (arith, m)) (omega (arith, k)))
      ]
    ]

-- a gap: some number from a on is no member
misses : (xs : List (ℕ × ℕ)) (a : ℕ) → IntervalsRise xs → BeginsFrom a xs → 0 < length (gaps_from a xs)
    → (c : ℕ) × (a ≤ c) × (c < code_points) × (in_intervals xs c ≡ false)
unfolding in_intervals gaps_from
misses [] a rise from some =
    elim (cases_lt a code_points) [
      | inl l ↦ (a, omega arith, l, refl)
      | inr m ↦ absurd (let e : length (gap a code_points) ≡ 0 = rw (le-ltb a code_points m) refl in omega (arith, some, e))
    ]
misses (i ∷ xs) a rise from some =
    elim (cases_lt a i.0) [
      | inl l ↦ (a, omega arith, omega (arith, (IntervalsRise-first i xs rise).0, (IntervalsRise-first i xs rise).1, l), misses-below (i ∷ xs) (a + 1) a rise (omega (arith, l)) (omega arith))
      | inr m ↦
          let e : length (gap a i.0) ≡ 0 = rw (le-ltb a i.0 m) refl in
          let r = misses xs (i.1 + 1) (IntervalsRise-rest i xs rise) (rise-next i xs rise) (omega (arith, some, e, length-append (gap a i.0) (gaps_from (i.1 + 1) xs))) in
          (r.0, omega (arith, r.1, m, from, (IntervalsRise-first i xs rise).0), r.2, rw (between-outside i.0 i.1 r.0 (inr (omega (arith, r.1)))) r.3)
    ]

-- an inverted bracket is empty where nothing is left out
pub inverted_is_empty : (xs : List (ℕ × ℕ)) → IntervalsRise xs → nat_eq (length (inverse xs)) 0 ≡ bracket_is_empty true xs
inverted_is_empty xs rise =
    elim (cases_eq (length (inverse xs)) 0) [
      | inl none ↦
          rw (eq-eqb _ _ none, some_below-none code_points (bracket_has true xs) (λ d l. ap not (covers xs 0 d none (omega arith) l))) refl
      | inr some ↦
          let r = misses xs 0 rise (from_zero xs) (omega (arith, some)) in
          rw (ne_eqb _ _ some, some_below-from code_points r.0 (bracket_has true xs) r.2 (ap not r.3)) refl
    ]
  where
    from_zero : (xs : List (ℕ × ℕ)) → BeginsFrom 0 xs
    from_zero [] = tt
    from_zero (i ∷ xs) = omega arith

-- a bracket that isn't inverted is empty where it has no interval
pub plain_is_empty : (xs : List (ℕ × ℕ)) → IntervalsRise xs → (length xs == 0) ≡ bracket_is_empty false xs
unfolding in_intervals
plain_is_empty [] rise = rw (some_below-none code_points (bracket_has false []) (λ d l. refl)) refl
plain_is_empty (i ∷ xs) rise =
    rw (some_below-from code_points i.0 (bracket_has false (i ∷ xs)) (omega (arith, (IntervalsRise-first i xs rise).0, (IntervalsRise-first i xs rise).1))
    (or_left _ _ (between-within i.0 i.1 i.0 (omega arith) ((IntervalsRise-first i xs rise).0)))) (none (length xs))
  where
    none : (n : ℕ) → (suc n == 0) ≡ false
    none n = grind (arith, nat_tests)
