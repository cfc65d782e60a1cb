-- Lists of intervals, by their ends.
use Rattle.std.proofs.Common.{◌≡◌, ℕ, ◌+◌, ◌-◌, ◌<◌, ◌≤◌, Bool, true, false, cond, ◌||◌, nat_lt, nat_le, if◌then◌else◌, min, max, List, [], ◌∷◌, ◌++◌, length, take, drop, get_or, slice_set, refl, sym, ap, ap₂, ◌∙◌, inl, inr, arith, add-one}
use mathlib.Core.HLevel.{is_prop→PathP}
use native.Mathlib.Bridge.{le_prop}
use Rattle.std.specs.List.{All, insert}
use Rattle.std.specs.List.Sorted.{IsNonDecreasingBy, IsPartitionedBy, IsPartitionPoint}
use Rattle.std.specs.declared.cmp.Ordering.TheVariants.{Less, Equal, Greater}
use Rattle.std.proofs.lemmas.Bool.{cases_lt, ltb-true, ltb-false, leb-true, leb-false}
use Rattle.std.proofs.lemmas.Bool.Decides.{nat_tests}
use Rattle.std.proofs.lemmas.List.{get_or-map, length-map, map-append, take-map, drop-map, take_all, drop_all, set_split, set_at, take_more, append_assoc, length-take-le, get_or_read, at_drop_more, at_drop_all}
use Rattle.std.proofs.lemmas.List.Sorted.{IsPartitionedBy-ltb, IsPartitionedBy-leb}
use Rattle.regress_meaning.specs.Text.{between}
use Rattle.regress_meaning.specs.Table.{last_code_point, code_points}
use Rattle.regress_meaning.specs.TableParts.{in_intervals, IntervalsRise}
use Rattle.regress_front_sets.specs.Intervals.{ends, ends_of, in_interval, interval_cmp, interval_at, IsRun, gap, gaps_from, inverse}
use Rattle.regress_front_sets.specs.declared.interval.Interval.{Interval}
use Rattle.regress_front_sets.proofs.IntervalLemmas.{in_intervals-nil, in_intervals-cons, IntervalsRise-apart, IntervalsRise-le, IsJoined, replaced, IntervalsRise-replaced, in_intervals-replaced, gaps_from-nil, gaps_from-cons, length-gaps_from}

-- an interval, as a default
abbrev pub first_interval : Interval
first_interval = record { first = 0; last = 0; ordered = omega arith; bounded = omega arith }

-- the ends of the interval at a place
pub interval_at-ends_of : (xs : List Interval) (k : ℕ) (d : Interval) → k < length xs → interval_at (ends_of xs) k ≡ ends (get_or xs k d)
interval_at-ends_of xs k d l = get_or-map ends xs k d (0, 0) l

-- the first number of the interval at a place
pub first_at : (xs : List Interval) (k : ℕ) (d : Interval) → k < length xs → (interval_at (ends_of xs) k).0 ≡ (get_or xs k d).first
first_at xs k d l = ap (λ p. p.0) (interval_at-ends_of xs k d l)

-- a later interval of those that rise begins no lower, and ends no lower
pub rises : (xs : List Interval) (j k : ℕ) (d : Interval) → IntervalsRise (ends_of xs) → j ≤ k → k < length xs
    → ((get_or xs j d).first ≤ (get_or xs k d).first) × ((get_or xs j d).last ≤ (get_or xs k d).last)
rises xs j k d h l m =
    let at_j = interval_at-ends_of xs j d (omega arith) in
    let at_k = interval_at-ends_of xs k d m in
    rw (at_j, at_k) at (IntervalsRise-le (ends_of xs) j k h l (omega (arith, length-map xs ends)))

-- ---- where an interval lies

pub interval_cmp-less : (i : Interval) (c : ℕ) → interval_cmp i c ≡ Less → i.last < c
interval_cmp-less i c h = grind (arith, nat_tests)

pub interval_cmp-equal : (i : Interval) (c : ℕ) → interval_cmp i c ≡ Equal → (i.first ≤ c) × (c ≤ i.last)
interval_cmp-equal i c h = grind (arith, nat_tests)

pub interval_cmp-greater : (i : Interval) (c : ℕ) → interval_cmp i c ≡ Greater → c < i.first
interval_cmp-greater i c h = grind (arith, nat_tests)

-- ---- an interval that is added

-- intervals that rise begin at rising places, and end there
firsts_rise : (xs : List Interval) → IntervalsRise (ends_of xs) → IsNonDecreasingBy (λ i. i.first) xs
firsts_rise xs h i j d l m = (rises xs i j d h l m).0

lasts_rise : (xs : List Interval) → IntervalsRise (ends_of xs) → IsNonDecreasingBy (λ i. i.last + 1) xs
lasts_rise xs h i j d l m = omega (arith, (rises xs i j d h l m).1)

-- what both searches ask of the intervals
pub before_is_partitioned : (xs : List Interval) (n : ℕ) → IntervalsRise (ends_of xs) → IsPartitionedBy (λ i. nat_lt (i.last + 1) n) xs
before_is_partitioned xs n h = IsPartitionedBy-ltb (λ i. i.last + 1) xs n (lasts_rise xs h)

pub not_after_is_partitioned : (xs : List Interval) (n : ℕ) → IntervalsRise (ends_of xs) → IsPartitionedBy (λ i. nat_le i.first n) xs
not_after_is_partitioned xs n h = IsPartitionedBy-leb (λ i. i.first) xs n (firsts_rise xs h)

-- between the places that both searches find lies the run that meets the interval or adjoins it
pub IsRun-from_points : (xs : List Interval) (new : Interval) (s e : ℕ) → s ≤ length xs → e ≤ length xs
    → IsPartitionPoint (λ i. nat_lt (i.last + 1) new.first ≡ true) (λ i. nat_lt (i.last + 1) new.first ≡ false) xs s
    → IsPartitionPoint (λ i. nat_le i.first (new.last + 1) ≡ true) (λ i. nat_le i.first (new.last + 1) ≡ false) xs e
    → IsRun (ends_of xs) (ends new) s e
IsRun-from_points xs new s e ls le starts to = record {
  order = elim (cases_lt e s) [
    | inl l ↦
        let i = get_or xs e first_interval in
        absurd (omega (arith, ltb-true _ _ (starts.0 e first_interval (omega arith) l), leb-false _ _ (to.1 e first_interval (omega arith) (omega arith)), i.ordered, new.ordered))
    | inr l ↦ l
  ];
  within = omega (arith, length-map xs ends);
  before = λ k l. rw (at k (omega arith)) (ltb-true _ _ (starts.0 k first_interval (omega arith) l));
  met = λ k l m. rw (at k (omega arith)) (
    ltb-false _ _ (starts.1 k first_interval l (omega arith)),
    leb-true _ _ (to.0 k first_interval (omega arith) m),
  );
  after = λ k l m. rw (at k (inside k m)) (leb-false _ _ (to.1 k first_interval l (inside k m)));
}
  where
    at : (k : ℕ) → k < length xs → interval_at (ends_of xs) k ≡ ends (get_or xs k first_interval)
    at k l = interval_at-ends_of xs k first_interval l

    inside : (k : ℕ) → k < length (ends_of xs) → k < length xs
    inside k l = omega (arith, length-map xs ends)

-- an interval that no other meets or adjoins stays as it is
IsJoined-alone : (xs : List (ℕ × ℕ)) (i : ℕ × ℕ) (s e : ℕ) → s ≡ e → IsJoined xs i s e i
IsJoined-alone xs i s e q = record { alone = λ _. refl; first = λ l. absurd (omega arith); last = λ l. absurd (omega arith) }

-- a run that is not empty gives the hull of its first, its last and the interval
IsJoined-hull : (xs : List Interval) (new first last joined : Interval) (s e : ℕ) → IntervalsRise (ends_of xs) → s < e → e ≤ length xs
    → first ≡ get_or xs s first → last ≡ get_or xs (e - 1) last
    → joined.first ≡ min (min first.first last.first) new.first → joined.last ≡ max (max first.last last.last) new.last
    → IsJoined (ends_of xs) (ends new) s e (ends joined)
IsJoined-hull xs new first last joined s e rise l within low high from to =
    let at_first = interval_at-ends_of xs s first_interval (omega arith) ∙ ap ends (sym (get_or_read xs s first (omega arith) low first_interval)) in
    let at_last = interval_at-ends_of xs (e - 1) first_interval (omega arith) ∙ ap ends (sym (get_or_read xs (e - 1) last (omega arith) high first_interval)) in
    let le = rw (at_first, at_last) at (IntervalsRise-le (ends_of xs) s (e - 1) rise (omega arith) (omega (arith, length-map xs ends))) in
    record {
      alone = λ q. absurd (omega arith);
      first = λ _. rw at_first (omega (arith, from, le.0));
      last = λ _. rw at_last (omega (arith, to, le.1));
    }

-- the last of those kept is overwritten
set-before_drop : {X : Type 0} (xs : List X) (s e : ℕ) (x d : X) → s < length xs → slice_set (take (s + 1) xs ++ drop e xs) s x ≡ take s xs ++ x ∷ drop e xs
set-before_drop xs s e x d l =
    ap (λ ys. slice_set (ys ++ drop e xs) s x) (take_more xs s d l)
    ∙ ap (λ ys. slice_set ys s x) (append_assoc (take s xs) (get_or xs s d ∷ []) (drop e xs))
    ∙ set_at (take s xs) (get_or xs s d) (drop e xs) x s (length-take-le s xs (omega arith))

-- the ends of a list with a run replaced
ends_of-replaced : (xs : List Interval) (s e : ℕ) (i : Interval) → ends_of (take s xs ++ i ∷ drop e xs) ≡ replaced (ends_of xs) s e (ends i)
ends_of-replaced xs s e i = simp (map-append, take-map, drop-map)

-- The new intervals still rise, and hold what the old ones and the added one hold.
pub record Adds (xs : List Interval) (new : Interval) (ys : List Interval) : Type 0 where
  pub rise : IntervalsRise (ends_of ys)
  pub members : (c : ℕ) → in_intervals (ends_of ys) c ≡ (in_intervals (ends_of xs) c || in_interval new c)

pub Adds-replaced : (xs ys : List Interval) (new joined : Interval) (s e : ℕ) → IntervalsRise (ends_of xs)
    → IsRun (ends_of xs) (ends new) s e → IsJoined (ends_of xs) (ends new) s e (ends joined)
    → ys ≡ take s xs ++ joined ∷ drop e xs → Adds xs new ys
Adds-replaced xs ys new joined s e rise run join is =
    let same = ap ends_of is ∙ ends_of-replaced xs s e joined in
    record {
      rise = rw same (IntervalsRise-replaced (ends_of xs) (ends new) s e (ends joined) rise new.ordered new.bounded run join);
      members = λ c. rw same (in_intervals-replaced (ends_of xs) (ends new) s e (ends joined) rise new.ordered new.bounded run join c);
    }

-- an interval in the place of an empty run
pub Adds-insert : (xs : List Interval) (new : Interval) (s e : ℕ) → IntervalsRise (ends_of xs) → IsRun (ends_of xs) (ends new) s e → s ≡ e
    → Adds xs new (insert xs s new)
Adds-insert xs new s e rise run q =
    Adds-replaced xs (insert xs s new) new new s e rise run (IsJoined-alone (ends_of xs) (ends new) s e q)
    (ap (λ k. take s xs ++ new ∷ drop k xs) q)

-- a run of which the first is overwritten, where the rest was removed
pub Adds-hull : (xs kept : List Interval) (new first last joined : Interval) (s e : ℕ) → IntervalsRise (ends_of xs) → IsRun (ends_of xs) (ends new) s e → (s ≡ e → ⊥)
    → first ≡ get_or xs s first → last ≡ get_or xs (e - 1) last
    → joined.first ≡ min (min first.first last.first) new.first → joined.last ≡ max (max first.last last.last) new.last
    → kept ≡ take (s + 1) xs ++ drop e xs → Adds xs new (slice_set kept s joined)
Adds-hull xs kept new first last joined s e rise run ne low high from to is =
    let l : s < e = omega (arith, run.order) in
    let within : e ≤ length xs = omega (arith, run.within, length-map xs ends) in
    Adds-replaced xs (slice_set kept s joined) new joined s e rise run
    (IsJoined-hull xs new first last joined s e rise l within low high from to)
    (ap (λ l. slice_set l s joined) is ∙ set-before_drop xs s e joined first (omega arith))

-- an interval after all the others, with a gap
pub Adds-push : (xs : List Interval) (new : Interval) → IntervalsRise (ends_of xs) → All (λ i. i.last + 1 < new.first) xs → Adds xs new (xs ++ new ∷ [])
Adds-push xs new rise below =
    let n = length xs in
    Adds-replaced xs (xs ++ new ∷ []) new new n n rise
    (record {
      order = omega arith;
      within = omega (arith, length-map xs ends);
      before = λ k l. rw (interval_at-ends_of xs k first_interval l) (below k first_interval l);
      met = λ k l m. absurd (omega arith);
      after = λ k l m. absurd (omega (arith, length-map xs ends));
    })
    (IsJoined-alone (ends_of xs) (ends new) n n refl)
    (simp (take_all n xs (omega arith), drop_all n xs (omega arith)))

-- what lies after the last lies after all
pub all_below : (xs : List Interval) (last : Interval) (n a : ℕ) → IntervalsRise (ends_of xs) → length xs ≡ n + 1
    → last ≡ get_or xs n last → last.last + 1 < a → All (λ i. i.last + 1 < a) xs
all_below xs last n a rise len is l k d m =
    let at = get_or_read xs n last (omega arith) is d in
    omega (arith, (rises xs k n d rise (omega arith) (omega arith)).1, ap (λ i. i.last) at)

-- an interval that begins in the last one or right after it
pub Adds-joined_last : (xs : List Interval) (new last joined : Interval) (n : ℕ) → IntervalsRise (ends_of xs) → length xs ≡ n + 1
    → last ≡ get_or xs n last → All (λ i. i.first ≤ new.first) xs → new.first ≤ last.last + 1
    → joined.first ≡ min last.first new.first → joined.last ≡ max last.last new.last
    → Adds xs new (slice_set xs n joined)
Adds-joined_last xs new last joined n rise len is low met from to =
    let at : interval_at (ends_of xs) n ≡ ends last = interval_at-ends_of xs n last (omega arith) ∙ ap ends (sym is) in
    let before_new = low n last (omega arith) in
    let begins : last.first ≤ new.first = rw is before_new in
    let only : (k : ℕ) → n ≤ k → k < n + 1 → k ≡ n = λ k l m. omega arith in
    Adds-replaced xs (slice_set xs n joined) new joined n (n + 1) rise
    (record {
      order = omega arith;
      within = omega (arith, length-map xs ends);
      before = λ k l.
          let apart = IntervalsRise-apart (ends_of xs) k n rise l (omega (arith, length-map xs ends)) in
          omega (arith, rw at at apart);
      met = λ k l m. rw (only k l m, at) (met, omega (arith, new.ordered));
      after = λ k l m. absurd (omega (arith, length-map xs ends));
    })
    (record {
      alone = λ e. absurd (omega arith);
      first = λ l. rw at from;
      last = λ l. let back : n + 1 - 1 ≡ n = omega arith in rw (back, at) to;
    })
    (rw add-one (set_split xs n joined (omega arith)))

-- whichever of two lists it is, the intervals rise
pub rise_either : (b : Bool) (xs ys zs : List Interval) → IntervalsRise (ends_of xs) → IntervalsRise (ends_of ys) → zs ≡ (if b then ys else xs) → IntervalsRise (ends_of zs)
rise_either true xs ys zs h k is = rw is k
rise_either false xs ys zs h k is = rw is h

-- ---- the gaps between intervals

-- the gap before the next interval is done
pub gaps_from-drop_more : (done now : List (ℕ × ℕ)) (a n : ℕ) (xs : List Interval) (i : Interval) → n < length xs → i ≡ get_or xs n i
    → now ≡ done ++ gap a i.first → now ++ gaps_from (i.last + 1) (drop (n + 1) (ends_of xs)) ≡ done ++ gaps_from a (drop n (ends_of xs))
gaps_from-drop_more done now a n xs i l is e =
    let at : interval_at (ends_of xs) n ≡ ends i = interval_at-ends_of xs n i l ∙ ap ends (sym is) in
    ap (λ gaps. gaps ++ gaps_from (i.last + 1) (drop (n + 1) (ends_of xs))) e
    ∙ append_assoc done (gap a i.first) (gaps_from (i.last + 1) (drop (n + 1) (ends_of xs)))
    ∙ ap (λ rest. done ++ rest)
    (sym (gaps_from-cons a (ends i) (drop (n + 1) (ends_of xs)))
    ∙ ap (λ p. gaps_from a (p ∷ drop (n + 1) (ends_of xs))) (sym at)
    ∙ sym (at_drop_more (gaps_from a) (ends_of xs) n (0, 0) (omega (arith, length-map xs ends))))

-- the gap after the last interval is done
pub gaps_from-drop_all : (done now : List (ℕ × ℕ)) (a n : ℕ) (xs : List Interval) → length xs ≤ n
    → now ≡ done ++ gap a code_points → now ≡ done ++ gaps_from a (drop n (ends_of xs))
gaps_from-drop_all done now a n xs l e =
    e ∙ ap (λ rest. done ++ rest) (sym (at_drop_all (gaps_from a) (ends_of xs) n (omega (arith, length-map xs ends)) ∙ gaps_from-nil a))

-- how many gaps there are, by the ends of the first interval and the last
pub length-inverse : (xs : List Interval) (n : ℕ) (first last : Interval) → IntervalsRise (ends_of xs) → length xs ≡ n + 1
    → first ≡ get_or xs 0 first → last ≡ get_or xs n last
    → length (inverse (ends_of xs)) ≡ cond (nat_lt 0 first.first) 1 0 + n + cond (nat_lt last.last last_code_point) 1 0
length-inverse [] n first last rise len low high = absurd (omega arith)
length-inverse (x ∷ xs) n first last rise len low high =
    let m : length (ends_of xs) ≡ n = omega (arith, length-map xs ends) in
    let at : interval_at (ends_of (x ∷ xs)) n ≡ ends last = interval_at-ends_of (x ∷ xs) n last (omega arith) ∙ ap ends (sym high) in
    length-gaps_from 0 (ends x) (ends_of xs) rise
    ∙ ap (λ k. cond (nat_lt 0 x.first) 1 0 + k + cond (nat_lt (interval_at (ends_of (x ∷ xs)) k).1 last_code_point) 1 0) m
    ∙ ap₂ (λ i j. cond (nat_lt 0 i.first) 1 0 + n + cond (nat_lt j.1 last_code_point) 1 0) (sym low) at

-- ---- two sets that are walked in order

or_regroup : (x y u v : Bool) → ((u || x) || (y || v)) ≡ (u || ((x || y) || v))
or_regroup true y true v = refl
or_regroup true y false v = refl
or_regroup false y true v = refl
or_regroup false y false v = refl

or_comm : (x y : Bool) → (x || y) ≡ (y || x)
or_comm true true = refl
or_comm true false = refl
or_comm false true = refl
or_comm false false = refl

-- the interval at a place holds something, or one of those behind it does
pub held-from : (xs : List Interval) (k : ℕ) (i : Interval) (c : ℕ) → k < length xs → i ≡ get_or xs k i
    → in_intervals (drop k (ends_of xs)) c ≡ (in_interval i c || in_intervals (drop (k + 1) (ends_of xs)) c)
held-from xs k i c within is =
    let at : interval_at (ends_of xs) k ≡ ends i = interval_at-ends_of xs k i within ∙ ap ends (sym is) in
    at_drop_more (λ ys. in_intervals ys c) (ends_of xs) k (0, 0) (omega (arith, length-map xs ends))
    ∙ in_intervals-cons (interval_at (ends_of xs) k) (drop (k + 1) (ends_of xs)) c
    ∙ ap (λ p. between p.0 p.1 c || in_intervals (drop (k + 1) (ends_of xs)) c) at

-- behind all intervals there is none
pub held-none : (xs : List Interval) (k c : ℕ) → length xs ≤ k → in_intervals (drop k (ends_of xs)) c ≡ false
held-none xs k c all = at_drop_all (λ ys. in_intervals ys c) (ends_of xs) k (omega (arith, length-map xs ends)) ∙ in_intervals-nil c

-- The union holds what the first i intervals on the left and the first j on the right do, and begins no interval above the next.
pub record IsMerged (left right union : List Interval) (i j : ℕ) : Type 0 where
  pub left_in : i ≤ length left
  pub right_in : j ≤ length right
  pub left_above : i < length left → All (λ x. x.first ≤ (interval_at (ends_of left) i).0) union
  pub right_above : j < length right → All (λ x. x.first ≤ (interval_at (ends_of right) j).0) union
  pub members : (c : ℕ) → (in_intervals (ends_of union) c || (in_intervals (drop i (ends_of left)) c || in_intervals (drop j (ends_of right)) c))
      ≡ (in_intervals (ends_of left) c || in_intervals (ends_of right) c)

-- the sides are alike
pub IsMerged-flip : (left right union : List Interval) (i j : ℕ) → IsMerged left right union i j → IsMerged right left union j i
IsMerged-flip left right union i j h = record {
  left_in = h.right_in;
  right_in = h.left_in;
  left_above = h.right_above;
  right_above = h.left_above;
  members = λ c.
      ap (λ b. in_intervals (ends_of union) c || b) (or_comm (in_intervals (drop j (ends_of right)) c) (in_intervals (drop i (ends_of left)) c))
      ∙ h.members c ∙ or_comm (in_intervals (ends_of left) c) (in_intervals (ends_of right) c);
}

pub IsMerged-none : (left right union : List Interval) → union ≡ [] → IsMerged left right union 0 0
IsMerged-none left right union e = record {
  left_in = omega arith;
  right_in = omega arith;
  left_above = λ _ k d l. absurd (omega (arith, ap length e));
  right_above = λ _ k d l. absurd (omega (arith, ap length e));
  members = λ c. rw (e, in_intervals-nil c) refl;
}

-- the next interval on the left is added
pub IsMerged-left : (left right old new : List Interval) (i j : ℕ) (item : Interval) → IntervalsRise (ends_of left) → IsMerged left right old i j
    → i < length left → item ≡ get_or left i item → (j < length right → item.first ≤ (interval_at (ends_of right) j).0)
    → All (λ x. x.first ≤ item.first) new
    → ((c : ℕ) → in_intervals (ends_of new) c ≡ (in_intervals (ends_of old) c || in_interval item c))
    → IsMerged left right new (i + 1) j
IsMerged-left left right old new i j item rise h l is next low added =
    let at : interval_at (ends_of left) i ≡ ends item = interval_at-ends_of left i item l ∙ ap ends (sym is) in
    record {
      left_in = omega arith;
      right_in = h.right_in;
      left_above = λ m k d n.
          omega (arith, low k d n, ap (λ p. p.0) at, (IntervalsRise-le (ends_of left) i (i + 1) rise (omega arith) (omega (arith, length-map left ends))).0);
      right_above = λ m k d n. omega (arith, low k d n, next m);
      members = λ c.
          let rest = in_intervals (drop (i + 1) (ends_of left)) c in
          let others = in_intervals (drop j (ends_of right)) c in
          ap (λ b. b || (rest || others)) (added c)
          ∙ or_regroup (in_interval item c) rest (in_intervals (ends_of old) c) others
          ∙ ap (λ b. in_intervals (ends_of old) c || (b || others)) (sym (held-from left i item c l is))
          ∙ h.members c;
    }

-- all is taken
pub IsMerged-all : (left right union : List Interval) (i j : ℕ) → IsMerged left right union i j → length left ≤ i → length right ≤ j
    → (c : ℕ) → in_intervals (ends_of union) c ≡ (in_intervals (ends_of left) c || in_intervals (ends_of right) c)
IsMerged-all left right union i j h l m c =
    sym (or-false (in_intervals (ends_of union) c))
    ∙ ap₂ (λ x y. in_intervals (ends_of union) c || (x || y)) (sym (held-none left i c l)) (sym (held-none right j c m))
    ∙ h.members c
  where
    or-false : (b : Bool) → (b || false) ≡ b
    or-false true = refl
    or-false false = refl

-- ---- the same ends, the same intervals

-- an interval is its ends
Interval-from_ends : (i j : Interval) → ends i ≡ ends j → i ≡ j
Interval-from_ends i j e =
    let first = ap (λ p. p.0) e in
    let last = ap (λ p. p.1) e in
    λ k. record {
      first = first k;
      last = last k;
      ordered = is_prop→PathP (λ m. first m ≤ last m) (λ m. le_prop) i.ordered j.ordered k;
      bounded = is_prop→PathP (λ m. last m ≤ last_code_point) (λ m. le_prop) i.bounded j.bounded k;
    }

-- intervals are their ends
pub intervals_from_ends : (xs ys : List Interval) → ends_of xs ≡ ends_of ys → xs ≡ ys
intervals_from_ends [] [] e = refl
intervals_from_ends [] (j ∷ ys) e = cc
intervals_from_ends (i ∷ xs) [] e = cc
intervals_from_ends (i ∷ xs) (j ∷ ys) e =
    let first : ends i ≡ ends j = cc in
    let rest : ends_of xs ≡ ends_of ys = cc in
    ap₂ (λ x l. x ∷ l) (Interval-from_ends i j first) (intervals_from_ends xs ys rest)
