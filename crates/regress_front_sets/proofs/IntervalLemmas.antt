-- Intervals that rise, as pairs of both ends, and the numbers that they hold.
use Rattle.std.proofs.Common.{◌≡◌, ℕ, zero, suc, ◌+◌, ◌-◌, ◌<◌, ◌≤◌, ◌⊎◌, Bool, true, false, cond, not, ◌&&◌, ◌||◌, nat_le, nat_lt, min, max, List, [], ◌∷◌, ◌++◌, length, take, drop, refl, sym, ap, ap₂, ◌∙◌, inl, inr, arith, le_of_suc-le-suc}
use Rattle.std.proofs.lemmas.Bool.{and_parts, or_cases, or_left, or_right, or_from, both_ways, false≢true, cases_eq, cases_lt, cases_order, lt-ltb, le-ltb, leb-true}
use Rattle.std.proofs.lemmas.Bool.Decides.{nat_tests}
use Rattle.std.proofs.lemmas.List.{length-append, length-drop, length-take-le, get_or_append_left, get_or-take, get_or_at, get_or-append-add, get_or-drop}
use Rattle.std.proofs.lemmas.List.Recursion.{or_at}
use Rattle.regress_meaning.specs.Text.{between}
use Rattle.regress_meaning.specs.Table.{last_code_point, code_points}
use Rattle.regress_meaning.specs.TableParts.{in_intervals, IntervalsRise}
use Rattle.regress_front_sets.specs.Intervals.{interval_at, IsRun, gap, gaps_from, inverse}
use Rattle.std.proofs.Math.Bool.{or_assoc}
use Rattle.regress_meaning.proofs.TableLemmas.{same_bool}

-- ---- tests

-- a number lies in an interval, or it lies below or above
pub between_cases : (a b c : ℕ) → ((between a b c ≡ true) × (a ≤ c) × (c ≤ b)) ⊎ ((between a b c ≡ false) × ((c < a) ⊎ (b < c)))
between_cases a b c = grind (arith, nat_tests)

pub between-true : (a b c : ℕ) → between a b c ≡ true → (a ≤ c) × (c ≤ b)
between-true a b c h = grind (arith, nat_tests)

pub between-within : (a b c : ℕ) → a ≤ c → c ≤ b → between a b c ≡ true
between-within a b c h k = grind (arith, nat_tests)

pub between-outside : (a b c : ℕ) → (c < a) ⊎ (b < c) → between a b c ≡ false
between-outside a b c h = grind (arith, nat_tests)

-- ---- the numbers that intervals hold

-- the interval holds c
abbrev holds_at : ℕ → ℕ × ℕ → Bool
holds_at c i = between i.0 i.1 c

pub in_intervals-nil : (c : ℕ) → in_intervals [] c ≡ false
unfolding in_intervals
in_intervals-nil c = refl

pub in_intervals-cons : (i : ℕ × ℕ) (xs : List (ℕ × ℕ)) (c : ℕ) → in_intervals (i ∷ xs) c ≡ (between i.0 i.1 c || in_intervals xs c)
unfolding in_intervals
in_intervals-cons i xs c = refl

pub in_intervals-append : (xs ys : List (ℕ × ℕ)) (c : ℕ) → in_intervals (xs ++ ys) c ≡ (in_intervals xs c || in_intervals ys c)
unfolding in_intervals
in_intervals-append [] ys c = refl
in_intervals-append (i ∷ xs) ys c =
    ap (λ b. between i.0 i.1 c || b) (in_intervals-append xs ys c)
    ∙ sym (or_assoc (between i.0 i.1 c) (in_intervals xs c) (in_intervals ys c))

-- what the interval at a place holds, all intervals hold
pub in_intervals-at : (xs : List (ℕ × ℕ)) (k c : ℕ) → k < length xs → (interval_at xs k).0 ≤ c → c ≤ (interval_at xs k).1 → in_intervals xs c ≡ true
unfolding in_intervals
in_intervals-at xs k c h l m =
    or_at (λ l. in_intervals l c) (holds_at c) refl (λ _ _. refl) xs k (0, 0) h (between-within _ _ c l m)

-- what intervals hold, one of them holds
pub in_intervals-place : (xs : List (ℕ × ℕ)) (c : ℕ) → in_intervals xs c ≡ true
    → (k : ℕ) × (k < length xs) × ((interval_at xs k).0 ≤ c) × (c ≤ (interval_at xs k).1)
unfolding in_intervals
in_intervals-place [] c h = absurd (false≢true h)
in_intervals-place (i ∷ xs) c h =
    elim (or_cases (between i.0 i.1 c) _ h) [
      | inl here ↦ let r = between-true i.0 i.1 c here in (0, omega arith, r.0, r.1)
      | inr there ↦ let r = in_intervals-place xs c there in (suc r.0, omega (arith, r.1), r.2, r.3)
    ]

-- ---- intervals that rise

pub IntervalsRise-first : (i : ℕ × ℕ) (xs : List (ℕ × ℕ)) → IntervalsRise (i ∷ xs) → (i.0 ≤ i.1) × (i.1 ≤ last_code_point)
IntervalsRise-first i [] h = h
IntervalsRise-first i (j ∷ xs) h = let rest = IntervalsRise-first j xs h.2 in (h.0, omega (arith, h.1, rest.0, rest.1))

pub IntervalsRise-rest : (i : ℕ × ℕ) (xs : List (ℕ × ℕ)) → IntervalsRise (i ∷ xs) → IntervalsRise xs
IntervalsRise-rest i [] h = tt
IntervalsRise-rest i (j ∷ xs) h = h.2

pub IntervalsRise-drop : (k : ℕ) (xs : List (ℕ × ℕ)) → IntervalsRise xs → IntervalsRise (drop k xs)
IntervalsRise-drop zero xs h = h
IntervalsRise-drop (suc k) [] h = h
IntervalsRise-drop (suc k) (i ∷ xs) h = IntervalsRise-drop k xs (IntervalsRise-rest i xs h)

-- each interval has a member, and ends within the code points
pub IntervalsRise-at : (xs : List (ℕ × ℕ)) (k : ℕ) → IntervalsRise xs → k < length xs
    → ((interval_at xs k).0 ≤ (interval_at xs k).1) × ((interval_at xs k).1 ≤ last_code_point)
IntervalsRise-at [] k h l = absurd (omega arith)
IntervalsRise-at (i ∷ xs) zero h l = IntervalsRise-first i xs h
IntervalsRise-at (i ∷ xs) (suc k) h l = IntervalsRise-at xs k (IntervalsRise-rest i xs h) (le_of_suc-le-suc l)

-- a later interval lies above the first, with a gap between
pub IntervalsRise-above : (i : ℕ × ℕ) (xs : List (ℕ × ℕ)) (k : ℕ) → IntervalsRise (i ∷ xs) → k < length xs → i.1 + 1 < (interval_at xs k).0
IntervalsRise-above i [] k h l = absurd (omega arith)
IntervalsRise-above i (j ∷ xs) zero h l = h.1
IntervalsRise-above i (j ∷ xs) (suc k) h l =
    omega (arith, h.1, (IntervalsRise-first j xs h.2).0, IntervalsRise-above j xs k h.2 (le_of_suc-le-suc l))

-- between two intervals lies a gap
pub IntervalsRise-apart : (xs : List (ℕ × ℕ)) (j k : ℕ) → IntervalsRise xs → j < k → k < length xs → (interval_at xs j).1 + 1 < (interval_at xs k).0
IntervalsRise-apart [] j k h l m = absurd (omega arith)
IntervalsRise-apart (i ∷ xs) j zero h l m = absurd (omega arith)
IntervalsRise-apart (i ∷ xs) zero (suc k) h l m = IntervalsRise-above i xs k h (le_of_suc-le-suc m)
IntervalsRise-apart (i ∷ xs) (suc j) (suc k) h l m =
    IntervalsRise-apart xs j k (IntervalsRise-rest i xs h) (le_of_suc-le-suc l) (le_of_suc-le-suc m)

-- a later interval begins no lower, and ends no lower
pub IntervalsRise-le : (xs : List (ℕ × ℕ)) (j k : ℕ) → IntervalsRise xs → j ≤ k → k < length xs
    → ((interval_at xs j).0 ≤ (interval_at xs k).0) × ((interval_at xs j).1 ≤ (interval_at xs k).1)
IntervalsRise-le xs j k h l m =
    elim (cases_eq j k) [
      | inl e ↦ let at = ap (interval_at xs) e in (omega (arith, ap (λ i. i.0) at), omega (arith, ap (λ i. i.1) at))
      | inr ne ↦
          let apart = IntervalsRise-apart xs j k h (omega arith) m in
          let low = IntervalsRise-at xs j h (omega arith) in
          let high = IntervalsRise-at xs k h m in
          (omega arith, omega arith)
    ]

-- intervals rise where each is one of code points and a gap follows each but the last
pub IntervalsRise-from_places : (xs : List (ℕ × ℕ))
    → ((k : ℕ) → k < length xs → ((interval_at xs k).0 ≤ (interval_at xs k).1) × ((interval_at xs k).1 ≤ last_code_point))
    → ((k : ℕ) → suc k < length xs → (interval_at xs k).1 + 1 < (interval_at xs (suc k)).0)
    → IntervalsRise xs
IntervalsRise-from_places [] each apart = tt
IntervalsRise-from_places (i ∷ []) each apart = each 0 (omega arith)
IntervalsRise-from_places (i ∷ j ∷ xs) each apart = (
  (each 0 (omega arith)).0,
  apart 0 (omega arith),
  IntervalsRise-from_places (j ∷ xs) (λ k l. each (suc k) (omega arith)) (λ k l. apart (suc k) (omega arith)),
)

-- no interval holds what lies below the first
pub in_intervals-below : (i : ℕ × ℕ) (xs : List (ℕ × ℕ)) (c : ℕ) → IntervalsRise (i ∷ xs) → c < i.0 → in_intervals (i ∷ xs) c ≡ false
unfolding in_intervals
in_intervals-below i [] c h l = or_from _ _ (between-outside i.0 i.1 c (inl l)) refl
in_intervals-below i (j ∷ xs) c h l =
    or_from _ _ (between-outside i.0 i.1 c (inl l)) (in_intervals-below j xs c h.2 (omega (arith, h.0, h.1)))

-- no later interval holds what the first holds, nor the number after it
pub in_intervals-after_first : (i : ℕ × ℕ) (xs : List (ℕ × ℕ)) (c : ℕ) → IntervalsRise (i ∷ xs) → c ≤ i.1 + 1 → in_intervals xs c ≡ false
in_intervals-after_first i [] c h l = in_intervals-nil c
in_intervals-after_first i (j ∷ xs) c h l = in_intervals-below j xs c h.2 (omega (arith, h.1))

-- only code points are held
pub in_intervals-bounded : (xs : List (ℕ × ℕ)) (c : ℕ) → IntervalsRise xs → in_intervals xs c ≡ true → c ≤ last_code_point
in_intervals-bounded xs c h e =
    let r = in_intervals-place xs c e in omega (arith, r.3, (IntervalsRise-at xs r.0 h r.1).1)

-- ---- the same numbers, the same intervals

-- where the first intervals hold the same numbers as the others, they begin alike
same_first : (i j : ℕ × ℕ) (xs ys : List (ℕ × ℕ)) → IntervalsRise (i ∷ xs) → IntervalsRise (j ∷ ys)
    → ((c : ℕ) → in_intervals (i ∷ xs) c ≡ in_intervals (j ∷ ys) c) → j.0 ≤ i.0
same_first i j xs ys h k same =
    elim (cases_lt i.0 j.0) [
      | inl l ↦
          let own = in_intervals-at (i ∷ xs) 0 i.0 (omega arith) (omega arith) ((IntervalsRise-first i xs h).0) in
          absurd (both_ways _ (in_intervals-below j ys i.0 k l) (sym (same i.0) ∙ own))
      | inr l ↦ l
    ]

-- and end alike
same_last : (i j : ℕ × ℕ) (xs ys : List (ℕ × ℕ)) → IntervalsRise (i ∷ xs) → IntervalsRise (j ∷ ys)
    → ((c : ℕ) → in_intervals (i ∷ xs) c ≡ in_intervals (j ∷ ys) c) → i.0 ≡ j.0 → j.1 ≤ i.1
same_last i j xs ys h k same e =
    elim (cases_lt i.1 j.1) [
      | inl l ↦
          let other = in_intervals-at (j ∷ ys) 0 (i.1 + 1) (omega arith) (omega (arith, (IntervalsRise-first i xs h).0)) (omega arith) in
          let none = or_from (between i.0 i.1 (i.1 + 1)) _ (between-outside i.0 i.1 (i.1 + 1) (inr (omega arith)))
          (in_intervals-after_first i xs (i.1 + 1) h (omega arith)) in
          absurd (both_ways _ (in_intervals-cons i xs (i.1 + 1) ∙ none) (same (i.1 + 1) ∙ other))
      | inr l ↦ l
    ]

-- what later intervals hold is what all hold and the first does not
in_intervals-rest : (i : ℕ × ℕ) (xs : List (ℕ × ℕ)) (c : ℕ) → IntervalsRise (i ∷ xs)
    → in_intervals xs c ≡ (in_intervals (i ∷ xs) c && not (between i.0 i.1 c))
in_intervals-rest i xs c h = elim (between_cases i.0 i.1 c) [
  | inl r ↦ rw (in_intervals-cons i xs c, r.0) (in_intervals-after_first i xs c h (omega (arith, r.2)))
  | inr r ↦ rw (in_intervals-cons i xs c, r.0) (sym (and-true (in_intervals xs c)))
]
  where
    and-true : (b : Bool) → (b && true) ≡ b
    and-true true = refl
    and-true false = refl

-- intervals that rise and hold the same numbers are the same
pub intervals_from_members : (xs ys : List (ℕ × ℕ)) → IntervalsRise xs → IntervalsRise ys
    → ((c : ℕ) → in_intervals xs c ≡ in_intervals ys c) → xs ≡ ys
intervals_from_members [] [] h k same = refl
intervals_from_members [] (j ∷ ys) h k same =
    let own = in_intervals-at (j ∷ ys) 0 j.0 (omega arith) (omega arith) ((IntervalsRise-first j ys k).0) in
    absurd (both_ways _ (in_intervals-nil j.0) (same j.0 ∙ own))
intervals_from_members (i ∷ xs) [] h k same =
    let own = in_intervals-at (i ∷ xs) 0 i.0 (omega arith) (omega arith) ((IntervalsRise-first i xs h).0) in
    absurd (both_ways _ (in_intervals-nil i.0) (sym (same i.0) ∙ own))
intervals_from_members (i ∷ xs) (j ∷ ys) h k same =
    let back = λ (c : ℕ). sym (same c) in
    let first : i.0 ≡ j.0 = omega (arith, same_first i j xs ys h k same, same_first j i ys xs k h back) in
    let last : i.1 ≡ j.1 = omega (arith, same_last i j xs ys h k same first, same_last j i ys xs k h back (sym first)) in
    let rest = intervals_from_members xs ys (IntervalsRise-rest i xs h) (IntervalsRise-rest j ys k) (λ c.
    in_intervals-rest i xs c h ∙ ap₂ (λ a b. a && not b) (same c) (ap₂ (λ a b. between a b c) first last) ∙ sym (in_intervals-rest j ys c k)) in
    ap₂ (λ x l. x ∷ l) (ap₂ (λ a b. (a, b)) first last) rest

-- ---- an interval that is added

-- the run with the interval gives one interval
pub record IsJoined (xs : List (ℕ × ℕ)) (new : ℕ × ℕ) (s e : ℕ) (joined : ℕ × ℕ) : Type 0 where
  pub alone : s ≡ e → joined ≡ new
  pub first : s < e → joined.0 ≡ min (interval_at xs s).0 new.0
  pub last : s < e → joined.1 ≡ max (interval_at xs (e - 1)).1 new.1

-- the run is replaced by that interval
abbrev pub replaced : List (ℕ × ℕ) → ℕ → ℕ → ℕ × ℕ → List (ℕ × ℕ)
replaced xs s e joined = take s xs ++ joined ∷ drop e xs

-- the intervals before the run stay
replaced-before : (xs : List (ℕ × ℕ)) (s e : ℕ) (m : ℕ × ℕ) (k : ℕ) → s ≤ length xs → k < s → interval_at (replaced xs s e m) k ≡ interval_at xs k
replaced-before xs s e m k w l =
    get_or_append_left (take s xs) (m ∷ drop e xs) (0, 0) k (omega (arith, length-take-le s xs w)) ∙ get_or-take s xs k (0, 0) l

-- the interval stands in the place of the run
replaced-joined : (xs : List (ℕ × ℕ)) (s e : ℕ) (m : ℕ × ℕ) → s ≤ length xs → interval_at (replaced xs s e m) s ≡ m
replaced-joined xs s e m w = get_or_at (take s xs) m (drop e xs) (0, 0) s (length-take-le s xs w)

-- the intervals after the run follow
replaced-after : (xs : List (ℕ × ℕ)) (s e : ℕ) (m : ℕ × ℕ) (k : ℕ) → s ≤ length xs → s < k → interval_at (replaced xs s e m) k ≡ interval_at xs (e + (k - s - 1))
replaced-after xs s e m k w l =
    let at : k ≡ length (take s xs) + suc (k - s - 1) = omega (arith, length-take-le s xs w) in
    ap (interval_at (replaced xs s e m)) at
    ∙ get_or-append-add (take s xs) (m ∷ drop e xs) (suc (k - s - 1)) (0, 0)
    ∙ get_or-drop e xs (k - s - 1) (0, 0)

length-replaced : (xs : List (ℕ × ℕ)) (s e : ℕ) (m : ℕ × ℕ) → s ≤ length xs → length (replaced xs s e m) ≡ s + suc (length xs - e)
length-replaced xs s e m w = simp (length-append, length-drop, length-take-le s xs w)

module _ (xs : List (ℕ × ℕ)) (new : ℕ × ℕ) (s e : ℕ) (m : ℕ × ℕ) (rise : IntervalsRise xs) (ordered : new.0 ≤ new.1) (bounded : new.1 ≤ last_code_point) (run : IsRun xs new s e) (joined : IsJoined xs new s e m) where
  -- the run is empty and the interval stays as it is, or the run is not
  cases_run : ((s ≡ e) × (m.0 ≡ new.0) × (m.1 ≡ new.1)) ⊎ ((s < e) × (m.0 ≡ min (interval_at xs s).0 new.0) × (m.1 ≡ max (interval_at xs (e - 1)).1 new.1))
  cases_run =
      elim (cases_eq s e) [
        | inl q ↦ let same = joined.alone q in inl (q, ap (λ i. i.0) same, ap (λ i. i.1) same)
        | inr ne ↦ let l : s < e = omega (arith, run.order) in inr (l, joined.first l, joined.last l)
      ]

  joined_valid : (m.0 ≤ m.1) × (m.1 ≤ last_code_point)
  joined_valid =
      elim cases_run [
        | inl q ↦ (omega (arith, q.1, q.2), omega (arith, q.2))
        | inr l ↦
            let at = IntervalsRise-at xs (e - 1) rise (omega (arith, l.0, run.within)) in
            (omega (arith, l.1, l.2), omega (arith, l.2, at.1))
      ]

  before_joined : (k : ℕ) → k < s → (interval_at xs k).1 + 1 < m.0
  before_joined k l =
      let low = run.before k l in
      elim cases_run [
        | inl q ↦ omega (arith, q.1)
        | inr r ↦ let apart = IntervalsRise-apart xs k s rise l (omega (arith, r.0, run.within)) in omega (arith, r.1)
      ]

  after_joined : (k : ℕ) → e ≤ k → k < length xs → m.1 + 1 < (interval_at xs k).0
  after_joined k l w =
      let high = run.after k l w in
      elim cases_run [
        | inl q ↦ omega (arith, q.2)
        | inr r ↦ let apart = IntervalsRise-apart xs (e - 1) k rise (omega (arith, r.0)) w in omega (arith, r.2)
      ]

  within : s ≤ length xs
  within = omega (arith, run.order, run.within)

  each_replaced : (k : ℕ) → k < length (replaced xs s e m) → ((interval_at (replaced xs s e m) k).0 ≤ (interval_at (replaced xs s e m) k).1) × ((interval_at (replaced xs s e m) k).1 ≤ last_code_point)
  each_replaced k l =
      elim (cases_order k s) [
        | inl q ↦ rw (q, replaced-joined xs s e m within) joined_valid
        | inr (inl b) ↦ rw (replaced-before xs s e m k within b) (IntervalsRise-at xs k rise (omega (arith, within)))
        | inr (inr a) ↦ rw (replaced-after xs s e m k within a) (IntervalsRise-at xs (e + (k - s - 1)) rise (omega (arith, length-replaced xs s e m within, run.within)))
      ]

  apart_replaced : (k : ℕ) → suc k < length (replaced xs s e m) → (interval_at (replaced xs s e m) k).1 + 1 < (interval_at (replaced xs s e m) (suc k)).0
  apart_replaced k l =
      let len = length-replaced xs s e m within in
      elim (cases_order k s) [
        | inl q ↦
            rw (q, replaced-joined xs s e m within, replaced-after xs s e m (suc s) within (omega arith))
            (after_joined (e + (suc s - s - 1)) (omega arith) (omega (arith, run.within)))
        | inr (inl b) ↦
            elim (cases_eq (suc k) s) [
              | inl q ↦ rw (replaced-before xs s e m k within b, q, replaced-joined xs s e m within) (before_joined k b)
              | inr ne ↦
                  rw (replaced-before xs s e m k within b, replaced-before xs s e m (suc k) within (omega arith))
                  (IntervalsRise-apart xs k (suc k) rise (omega arith) (omega (arith, within)))
            ]
        | inr (inr a) ↦
            rw (replaced-after xs s e m k within a, replaced-after xs s e m (suc k) within (omega arith))
            (IntervalsRise-apart xs (e + (k - s - 1)) (e + (suc k - s - 1)) rise (omega arith) (omega (arith, run.within)))
      ]

  -- the intervals still rise
  pub IntervalsRise-replaced : IntervalsRise (replaced xs s e m)
  IntervalsRise-replaced = IntervalsRise-from_places (replaced xs s e m) each_replaced apart_replaced

  -- what the new intervals hold, the old ones or the added one holds
  replaced_then : (c : ℕ) → in_intervals (replaced xs s e m) c ≡ true → (in_intervals xs c || between new.0 new.1 c) ≡ true
  replaced_then c h =
      let r = in_intervals-place (replaced xs s e m) c h in
      let len = length-replaced xs s e m within in
      elim (cases_order r.0 s) [
        | inl q ↦ in_joined (rw (q, replaced-joined xs s e m within) at r.2) (rw (q, replaced-joined xs s e m within) at r.3)
        | inr (inl b) ↦
            let at = replaced-before xs s e m r.0 within b in
            or_left _ _ (in_intervals-at xs r.0 c (omega (arith, within)) (rw at at r.2) (rw at at r.3))
        | inr (inr a) ↦
            let at = replaced-after xs s e m r.0 within a in
            or_left _ _ (in_intervals-at xs (e + (r.0 - s - 1)) c (omega (arith, r.1, run.within)) (rw at at r.2) (rw at at r.3))
      ]
    where
      in_joined : m.0 ≤ c → c ≤ m.1 → (in_intervals xs c || between new.0 new.1 c) ≡ true
      in_joined l h =
          elim cases_run [
            | inl q ↦ or_right _ _ (between-within new.0 new.1 c (omega (arith, q.1)) (omega (arith, q.2)))
            | inr r ↦
                elim (between_cases new.0 new.1 c) [
                  | inl in_new ↦ or_right _ _ in_new.0
                  | inr (_, inl low) ↦
                      let met = run.met s (omega arith) r.0 in
                      or_left _ _ (in_intervals-at xs s c (omega (arith, r.0, run.within)) (omega (arith, r.1)) (omega (arith, met.0)))
                  | inr (_, inr high) ↦
                      let met = run.met (e - 1) (omega (arith, r.0)) (omega (arith, r.0)) in
                      or_left _ _ (in_intervals-at xs (e - 1) c (omega (arith, r.0, run.within)) (omega (arith, met.1)) (omega (arith, r.2)))
                ]
          ]

  -- what the old intervals or the added one holds, the new ones hold
  replaced_from : (c : ℕ) → (in_intervals xs c || between new.0 new.1 c) ≡ true → in_intervals (replaced xs s e m) c ≡ true
  replaced_from c h = elim (or_cases (in_intervals xs c) _ h) [ inl old ↦ kept old | inr added ↦ in_joined (between-true new.0 new.1 c added) ]
    where
      hold : m.0 ≤ c → c ≤ m.1 → in_intervals (replaced xs s e m) c ≡ true
      hold l h =
          let at = replaced-joined xs s e m within in
          in_intervals-at (replaced xs s e m) s c (omega (arith, length-replaced xs s e m within)) (rw at l) (rw at h)

      in_joined : (new.0 ≤ c) × (c ≤ new.1) → in_intervals (replaced xs s e m) c ≡ true
      in_joined w =
          elim cases_run [
            | inl q ↦ hold (omega (arith, q.1, w.0)) (omega (arith, q.2, w.1))
            | inr r ↦ hold (omega (arith, r.1, w.0)) (omega (arith, r.2, w.1))
          ]

      in_run : (k : ℕ) → s ≤ k → k < e → (interval_at xs k).0 ≤ c → c ≤ (interval_at xs k).1 → in_intervals (replaced xs s e m) c ≡ true
      in_run k l h low high =
          elim cases_run [
            | inl q ↦ absurd (omega (arith, q.0))
            | inr r ↦
                let first = IntervalsRise-le xs s k rise l (omega (arith, run.within)) in
                let last = IntervalsRise-le xs k (e - 1) rise (omega arith) (omega (arith, run.within)) in
                hold (omega (arith, r.1, first.0)) (omega (arith, r.2, last.1))
          ]

      kept : in_intervals xs c ≡ true → in_intervals (replaced xs s e m) c ≡ true
      kept h =
          let r = in_intervals-place xs c h in
          let len = length-replaced xs s e m within in
          elim (cases_lt r.0 s) [
            | inl b ↦
                let at = replaced-before xs s e m r.0 within b in
                in_intervals-at (replaced xs s e m) r.0 c (omega arith) (rw at r.2) (rw at r.3)
            | inr from ↦
                elim (cases_lt r.0 e) [
                  | inl to ↦ in_run r.0 from to r.2 r.3
                  | inr a ↦
                      let k = s + suc (r.0 - e) in
                      let back : e + (k - s - 1) ≡ r.0 = omega arith in
                      let at = replaced-after xs s e m k within (omega arith) ∙ ap (interval_at xs) back in
                      in_intervals-at (replaced xs s e m) k c (omega (arith, r.1)) (rw at r.2) (rw at r.3)
                ]
          ]

  -- the new intervals hold what the old ones and the added one hold
  pub in_intervals-replaced : (c : ℕ) → in_intervals (replaced xs s e m) c ≡ (in_intervals xs c || between new.0 new.1 c)
  in_intervals-replaced c = same_bool _ _ (replaced_then c) (replaced_from c)

-- ---- the gaps between intervals

in_intervals-gap : (a b c : ℕ) → in_intervals (gap a b) c ≡ (nat_le a c && nat_lt c b)
in_intervals-gap a b c = elim (cases_lt a b) [
  | inl l ↦ rw (lt-ltb a b l, in_intervals-cons (a, b - 1) [] c, in_intervals-nil c) (grind (arith, nat_tests))
  | inr l ↦ rw (le-ltb a b l, in_intervals-nil c) (grind (arith, nat_tests))
]

-- each interval begins at a or later
abbrev pub BeginsFrom : ℕ → List (ℕ × ℕ) → Type 0
BeginsFrom a xs = (k : ℕ) → k < length xs → a ≤ (interval_at xs k).0

BeginsFrom-rest : (i : ℕ × ℕ) (xs : List (ℕ × ℕ)) → IntervalsRise (i ∷ xs) → BeginsFrom (i.1 + 1) xs
BeginsFrom-rest i xs h k l = omega (arith, IntervalsRise-above i xs k h l)

-- one more interval before the gaps: later says whether a later interval holds c
gap_before : (a c : ℕ) (i : ℕ × ℕ) (later : Bool) → a ≤ i.0 → i.0 ≤ i.1 → i.1 ≤ last_code_point → (later ≡ true → i.1 < c)
    → ((nat_le a c && nat_lt c i.0) || (nat_le (i.1 + 1) c && (nat_le c last_code_point && not later)))
    ≡ (nat_le a c && (nat_le c last_code_point && not (between i.0 i.1 c || later)))
gap_before a c i true h k l m = grind (arith, nat_tests, m refl)
gap_before a c i false h k l m = grind (arith, nat_tests)

-- the gaps from a on hold the code points from a on that no interval holds
pub in_intervals-gaps_from : (a : ℕ) (xs : List (ℕ × ℕ)) (c : ℕ) → IntervalsRise xs → BeginsFrom a xs
    → in_intervals (gaps_from a xs) c ≡ (nat_le a c && (nat_le c last_code_point && not (in_intervals xs c)))
unfolding gaps_from
in_intervals-gaps_from a [] c h k = rw (in_intervals-gap a code_points c, in_intervals-nil c) (grind (arith, nat_tests))
in_intervals-gaps_from a (i ∷ xs) c h k =
    let first = IntervalsRise-first i xs h in
    let rest = in_intervals-gaps_from (i.1 + 1) xs c (IntervalsRise-rest i xs h) (BeginsFrom-rest i xs h) in
    in_intervals-append (gap a i.0) (gaps_from (i.1 + 1) xs) c
    ∙ ap₂ (λ x y. x || y) (in_intervals-gap a i.0 c) rest
    ∙ gap_before a c i (in_intervals xs c) (k 0 (omega arith)) first.0 first.1 (λ e. above e)
    ∙ ap (λ b. nat_le a c && (nat_le c last_code_point && not b)) (sym (in_intervals-cons i xs c))
  where
    above : in_intervals xs c ≡ true → i.1 < c
    above e = elim (cases_lt i.1 c) [ inl l ↦ l | inr l ↦ absurd (both_ways _ (in_intervals-after_first i xs c h (omega arith)) e) ]

-- an interval before others, with a gap
pub IntervalsRise-cons : (i : ℕ × ℕ) (xs : List (ℕ × ℕ)) → i.0 ≤ i.1 → i.1 ≤ last_code_point → BeginsFrom (i.1 + 2) xs → IntervalsRise xs → IntervalsRise (i ∷ xs)
IntervalsRise-cons i [] ordered bounded above h = (ordered, bounded)
IntervalsRise-cons i (j ∷ xs) ordered bounded above h = (ordered, omega (arith, above 0 (omega arith)), h)

BeginsFrom-gaps_from : (a : ℕ) (xs : List (ℕ × ℕ)) → IntervalsRise xs → BeginsFrom a xs → IntervalsRise (gaps_from a xs) → BeginsFrom a (gaps_from a xs)
BeginsFrom-gaps_from a xs h k rise n l =
    let i = interval_at (gaps_from a xs) n in
    let own = in_intervals-at (gaps_from a xs) n i.0 l (omega arith) (IntervalsRise-at (gaps_from a xs) n rise l).0 in
    leb-true a i.0 (and_parts (nat_le a i.0) _ (sym (in_intervals-gaps_from a xs i.0 h k) ∙ own)).0

-- the gaps rise
pub IntervalsRise-gaps_from : (a : ℕ) (xs : List (ℕ × ℕ)) → IntervalsRise xs → BeginsFrom a xs → IntervalsRise (gaps_from a xs)
unfolding gaps_from
IntervalsRise-gaps_from a [] h k = elim (cases_lt a code_points) [
  | inl l ↦ rw (lt-ltb a code_points l) (omega arith, omega arith)
  | inr l ↦ rw (le-ltb a code_points l) tt
]
IntervalsRise-gaps_from a (i ∷ xs) h k =
    let first = IntervalsRise-first i xs h in
    let later = IntervalsRise-rest i xs h in
    let rest = IntervalsRise-gaps_from (i.1 + 1) xs later (BeginsFrom-rest i xs h) in
    let from = BeginsFrom-gaps_from (i.1 + 1) xs later (BeginsFrom-rest i xs h) rest in
    elim (cases_lt a i.0) [
      | inl l ↦ rw (lt-ltb a i.0 l) (IntervalsRise-cons (a, i.0 - 1) (gaps_from (i.1 + 1) xs) (omega arith) (omega arith) (λ n m. omega (arith, from n m)) rest)
      | inr l ↦ rw (le-ltb a i.0 l) rest
    ]

pub IntervalsRise-inverse : (xs : List (ℕ × ℕ)) → IntervalsRise xs → IntervalsRise (inverse xs)
IntervalsRise-inverse xs h = IntervalsRise-gaps_from 0 xs h (λ k l. omega arith)

-- the inverse holds the code points that the intervals do not
pub in_intervals-inverse : (xs : List (ℕ × ℕ)) (c : ℕ) → IntervalsRise xs → in_intervals (inverse xs) c ≡ (nat_le c last_code_point && not (in_intervals xs c))
in_intervals-inverse xs c h = in_intervals-gaps_from 0 xs c h (λ k l. omega arith) ∙ grind (arith, nat_tests)

-- what lies within the code points, and not outside the numbers that are held
not_twice : (c : ℕ) (b : Bool) → (b ≡ true → c ≤ last_code_point) → (nat_le c last_code_point && not (nat_le c last_code_point && not b)) ≡ b
not_twice c true h = grind (arith, nat_tests, h refl)
not_twice c false h = grind (arith, nat_tests)

-- the inverse of the inverse
pub inverse-inverse : (xs : List (ℕ × ℕ)) → IntervalsRise xs → inverse (inverse xs) ≡ xs
inverse-inverse xs h =
    let once = IntervalsRise-inverse xs h in
    intervals_from_members (inverse (inverse xs)) xs (IntervalsRise-inverse (inverse xs) once) h (λ c.
    in_intervals-inverse (inverse xs) c once
    ∙ ap (λ b. nat_le c last_code_point && not b) (in_intervals-inverse xs c h)
    ∙ not_twice c (in_intervals xs c) (in_intervals-bounded xs c h))

length-gap : (a b : ℕ) → length (gap a b) ≡ cond (nat_lt a b) 1 0
length-gap a b = elim (cases_lt a b) [ inl l ↦ rw (lt-ltb a b l) refl | inr l ↦ rw (le-ltb a b l) refl ]

-- how many gaps there are: one between any two intervals, and perhaps one at each end
pub length-gaps_from : (a : ℕ) (i : ℕ × ℕ) (xs : List (ℕ × ℕ)) → IntervalsRise (i ∷ xs)
    → length (gaps_from a (i ∷ xs)) ≡ cond (nat_lt a i.0) 1 0 + length xs + cond (nat_lt (interval_at (i ∷ xs) (length xs)).1 last_code_point) 1 0
unfolding gaps_from
length-gaps_from a i [] h =
    length-append (gap a i.0) (gap (i.1 + 1) code_points)
    ∙ ap₂ (λ m n. m + n) (length-gap a i.0) (length-gap (i.1 + 1) code_points)
    ∙ grind (arith, nat_tests)
length-gaps_from a i (j ∷ xs) h =
    length-append (gap a i.0) (gaps_from (i.1 + 1) (j ∷ xs))
    ∙ ap₂ (λ m n. m + n) (length-gap a i.0) (length-gaps_from (i.1 + 1) j xs h.2)
    ∙ rw (lt-ltb (i.1 + 1) j.0 h.1) (omega arith)

pub gaps_from-nil : (a : ℕ) → gaps_from a [] ≡ gap a code_points
unfolding gaps_from
gaps_from-nil a = refl

pub gaps_from-cons : (a : ℕ) (i : ℕ × ℕ) (xs : List (ℕ × ℕ)) → gaps_from a (i ∷ xs) ≡ gap a i.0 ++ gaps_from (i.1 + 1) xs
unfolding gaps_from
gaps_from-cons a i xs = refl
