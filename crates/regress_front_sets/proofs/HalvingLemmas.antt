-- A search by halving among intervals that ascend.
use Rattle.std.proofs.Common.{◌≡◌, ℕ, zero, suc, Bool, true, false, not, cond, nat_lt, ◌||◌, [], ◌∷◌, ◌+◌, ◌-◌, ◌/◌, ◌^◌, ◌<◌, ◌≤◌, Some, None, List, length, get_or, refl, sym, ◌∙◌, subst, inl, inr, arith}
use Rattle.std.specs.List.{position, position_or_len}
use Rattle.std.specs.Option.{is_some}
use Rattle.std.specs.declared.cmp.Ordering.TheVariants.{Less, Equal, Greater}
use Rattle.std.proofs.Math.Nat.{two-pow-succ}
use Rattle.std.proofs.lemmas.Bool.Decides.{nat_tests}
use Rattle.std.proofs.lemmas.Bool.{cases_lt, lt-ltb, le-ltb}
use Rattle.std.proofs.lemmas.List.{length-map}
use Rattle.std.proofs.lemmas.List.Sums.{position_or_len_is}
use Rattle.regress_meaning.specs.TableParts.{in_intervals, IntervalsRise}
use Rattle.regress_front_sets.specs.Intervals.{Ascend, ends, ends_of, in_interval, interval_cmp}
use Rattle.regress_front_sets.specs.declared.interval.Interval.{Interval}
use Rattle.regress_front_sets.proofs.IntervalLemmas.{between-within, between-outside, IntervalsRise-apart}
use Rattle.regress_front_sets.proofs.SetLemmas.{first_interval, interval_at-ends_of, interval_cmp-less, interval_cmp-equal, interval_cmp-greater}

-- ---- what was narrowed down

-- the interval at a place
abbrev at : List Interval → ℕ → Interval
at xs k = get_or xs k first_interval

-- All intervals before the one at `low` lie before c, and those from `high` on behind it.
pub record IsNarrowed (xs : List Interval) (c low high : ℕ) : Type 0 where
  pub order : low ≤ high
  pub within : high ≤ length xs
  pub below : (k : ℕ) → k < low → (get_or xs k first_interval).last < c
  pub above : (k : ℕ) → high ≤ k → k < length xs → c < (get_or xs k first_interval).first

module _ (xs : List Interval) (c : ℕ) (ascend : Ascend (ends_of xs)) where
  -- an interval ends before a later one begins
  apart : (j k : ℕ) → j < k → k < length xs → (at xs j).last < (at xs k).first
  apart j k l m =
      let left = interval_at-ends_of xs j first_interval (omega arith) in
      let right = interval_at-ends_of xs k first_interval m in
      rw (left, right) at (ascend j k l (omega (arith, length-map xs ends)))

  -- an interval that lies before c has only such before it
  pub IsNarrowed-up : (low high m : ℕ) → IsNarrowed xs c low high → low ≤ m → m < high → interval_cmp (at xs m) c ≡ Less → IsNarrowed xs c (m + 1) high
  IsNarrowed-up low high m h l r is = record {
    order = omega arith;
    within = h.within;
    below = λ k s.
        let here = interval_cmp-less (at xs m) c is in
        elim (cases_lt k m) [
          | inl before ↦ let near = apart k m before (omega (arith, h.within)) in let own = (at xs m).ordered in omega arith
          | inr from ↦ let e : m ≡ k = omega arith in subst (λ (v : ℕ). (at xs v).last < c) e here
        ];
    above = h.above;
  }

  -- an interval that lies behind c has only such behind it
  pub IsNarrowed-down : (low high m : ℕ) → IsNarrowed xs c low high → low ≤ m → m < high → interval_cmp (at xs m) c ≡ Greater → IsNarrowed xs c low m
  IsNarrowed-down low high m h l r is = record {
    order = l;
    within = omega (arith, h.within);
    below = h.below;
    above = λ k s w.
        let here = interval_cmp-greater (at xs m) c is in
        elim (cases_lt m k) [
          | inl behind ↦ let near = apart m k behind w in let own = (at xs m).ordered in omega arith
          | inr to ↦ let e : m ≡ k = omega arith in subst (λ (v : ℕ). c < (at xs v).first) e here
        ];
  }

  -- the interval that holds c is the first that does
  pub position-found : (m : ℕ) → m < length xs → interval_cmp (at xs m) c ≡ Equal → position (λ i. in_interval i c) xs ≡ Some m
  position-found m l is =
      let here = interval_cmp-equal (at xs m) c is in
      let first = position_or_len_is (λ i. in_interval i c) xs m first_interval (omega arith)
      (λ k s. between-outside _ _ c (inr (let near = apart k m s l in omega (arith, here.0)))) (λ _. between-within _ _ c here.0 here.1) in
      rw (first, lt-ltb m (length xs) l) refl

  -- where nothing is left, none does
  pub position-none : (low high : ℕ) → IsNarrowed xs c low high → high ≤ low → position (λ i. in_interval i c) xs ≡ None
  position-none low high h e =
      let last = position_or_len_is (λ i. in_interval i c) xs (length xs) first_interval (omega arith)
      (λ k s. between-outside _ _ c (elim (cases_lt k low) [
        | inl before ↦ inr (h.below k before)
        | inr from ↦ inl (h.above k (omega arith) s)
      ])) (λ l. absurd (omega arith)) in
      rw (last, le-ltb (length xs) (length xs) (omega arith)) refl

-- ---- how many probes that takes

-- Of as many probes as `len` has binary digits, enough are left for the `rest`.
pub record IsWithin (len start made rest : ℕ) : Type 0 where
  pub left : (k : ℕ) → len < 2 ^ k → (j : ℕ) × (made + j ≤ start + k) × (rest < 2 ^ j)

pub IsWithin-start : (len start : ℕ) → IsWithin len start start len
IsWithin-start len start = record { left = λ k l. (k, omega arith, l) }

halved : (j rest less : ℕ) → rest < 2 ^ j → less < rest → less ≤ rest / 2 → (i : ℕ) × (j ≡ i + 1) × (less < 2 ^ i)
halved zero rest less l m h = absurd (omega arith)
halved (suc i) rest less l m h = (i, omega arith, omega (arith, two-pow-succ i))

-- a probe more halves the rest
pub IsWithin-halved : (len start made rest less : ℕ) → IsWithin len start made rest → less < rest → less ≤ rest / 2 → IsWithin len start (made + 1) less
IsWithin-halved len start made rest less w l h = record {
  left = λ k s.
      let before = w.left k s in
      let after = halved before.0 rest less before.2 l h in
      (after.0, omega (arith, before.1, after.1), after.2);
}

-- ---- what the search keeps

-- `now` are the intervals that are told now, `xs` those that were at the start.
pub record IsSearched (xs now : List Interval) (c low high start made : ℕ) : Type 0 where
  pub same : now ≡ xs
  pub narrowed : IsNarrowed xs c low high
  pub counted : IsWithin (length xs) start made (high - low)

pub IsSearched-start : (xs : List Interval) (c start : ℕ) → IsSearched xs xs c 0 (length xs) start start
IsSearched-start xs c start = record {
  same = refl;
  narrowed = record { order = omega arith; within = omega arith; below = λ k l. absurd (omega arith); above = λ k l m. absurd (omega arith) };
  counted = let e : length xs - 0 ≡ length xs = omega arith in rw e (IsWithin-start (length xs) start);
}

module _ (xs now next : List Interval) (c low high start made more : ℕ) (ascend : Ascend (ends_of now)) (h : IsSearched xs now c low high start made)
    (l : low < high) (same : next ≡ now) (one : more ≡ made + 1) where
  -- the interval that is compared
  abbrev middle : ℕ
  middle = low + (high - low) / 2

  rise : Ascend (ends_of xs)
  rise = subst (λ (ys : List Interval). Ascend (ends_of ys)) h.same ascend

  pub IsSearched-up : interval_cmp (get_or now middle first_interval) c ≡ Less → IsSearched xs next c (middle + 1) high start more
  IsSearched-up is = record {
    same = cc;
    narrowed = IsNarrowed-up xs c rise low high middle h.narrowed (omega arith) (omega arith) (subst (λ (ys : List Interval). interval_cmp (get_or ys middle first_interval) c ≡ Less) h.same is);
    counted = rw one (IsWithin-halved (length xs) start made (high - low) (high - (middle + 1)) h.counted (omega arith) (omega arith));
  }

  pub IsSearched-down : interval_cmp (get_or now middle first_interval) c ≡ Greater → IsSearched xs next c low middle start more
  IsSearched-down is = record {
    same = cc;
    narrowed = IsNarrowed-down xs c rise low high middle h.narrowed (omega arith) (omega arith) (subst (λ (ys : List Interval). interval_cmp (get_or ys middle first_interval) c ≡ Greater) h.same is);
    counted = rw one (IsWithin-halved (length xs) start made (high - low) (middle - low) h.counted (omega arith) (omega arith));
  }

  pub Searched-found : interval_cmp (get_or now middle first_interval) c ≡ Equal → Some middle ≡ position (λ i. in_interval i c) xs
  Searched-found is =
      sym (position-found xs c rise middle (omega (arith, h.narrowed.within)) (subst (λ (ys : List Interval). interval_cmp (get_or ys middle first_interval) c ≡ Equal) h.same is))

  -- a probe more is within the number
  pub one_more : (k : ℕ) → length xs < 2 ^ k → more ≤ start + k
  one_more k w =
      let before = h.counted.left k w in
      let after = halved before.0 (high - low) 0 before.2 (omega arith) (omega arith) in
      omega (arith, before.1, after.1)

-- ---- for intervals that rise

pub Ascend-rise : (xs : List (ℕ × ℕ)) → IntervalsRise xs → Ascend xs
Ascend-rise xs h j k l m = let apart = IntervalsRise-apart xs j k h l m in omega arith

nat_lt-more : (a b : ℕ) → nat_lt (1 + a) (suc b) ≡ nat_lt a b
nat_lt-more a b = grind (arith, nat_tests)

-- the first index of an interval that holds c is within the list where some interval does
any-before_end : (xs : List Interval) (c : ℕ) → nat_lt (position_or_len (λ i. in_interval i c) xs) (length xs) ≡ in_intervals (ends_of xs) c
unfolding in_intervals
any-before_end [] c = refl
any-before_end (x ∷ xs) c =
    let rest = any-before_end xs c in
    elim (in_interval x c) as (λ b. nat_lt (cond (not b) (1 + position_or_len (λ i. in_interval i c) xs) 0) (suc (length xs)) ≡ (b || in_intervals (ends_of xs) c)) [
      | true ↦ lt-ltb 0 (suc (length xs)) (omega arith)
      | false ↦ nat_lt-more _ (length xs) ∙ rest
    ]

is_some-choice : (b : Bool) (k : ℕ) → is_some (cond b (Some k) None) ≡ b
is_some-choice true k = refl
is_some-choice false k = refl

-- there is an index where some interval holds c
pub in_intervals-position : (xs : List Interval) (c : ℕ) → is_some (position (λ i. in_interval i c) xs) ≡ in_intervals (ends_of xs) c
in_intervals-position xs c = is_some-choice _ _ ∙ any-before_end xs c
