-- The ASCII members of intervals that rise.
use Rattle.std.proofs.Common.{◌≡◌, ℕ, ◌+◌, ◌-◌, ◌<◌, ◌≤◌, ◌||◌, Bool, true, false, List, Some, length, get_or, drop, subst, sym, ap, ◌∙◌, arith}
use Rattle.std.specs.Prelude.{slice_get}
use Rattle.std.proofs.Math.Bool.{or_assoc}
use Rattle.std.proofs.lemmas.List.{length-map, drop_more}
use Rattle.std.proofs.lemmas.Option.{slice_get_within, get_or_from_slice_get}
use Rattle.regress_meaning.specs.TableParts.{in_intervals, IntervalsRise}
use Rattle.regress_front_sets.specs.Intervals.{ends, ends_of, in_interval, interval_at}
use Rattle.regress_front_sets.specs.declared.interval.Interval.{Interval}
use Rattle.regress_front_sets.proofs.IntervalLemmas.{in_intervals-at, in_intervals-below, in_intervals-place, IntervalsRise-drop}
use Rattle.regress_front_sets.proofs.SetLemmas.{first_interval, interval_at-ends_of, rises, held-from}

-- no interval from a place on holds what lies below the one there
pub nothing-below : (xs : List Interval) (k : ℕ) (i : Interval) (c : ℕ) → IntervalsRise (ends_of xs) → k < length xs → i ≡ get_or xs k i → c < i.first
    → in_intervals (drop k (ends_of xs)) c ≡ false
nothing-below xs k i c rise within is low =
    let there : k < length (ends_of xs) = omega (arith, length-map xs ends) in
    let more = drop_more (ends_of xs) k (0, 0) there in
    let first = ap (λ p. p.0) (interval_at-ends_of xs k i within ∙ ap ends (sym is)) in
    ap (λ ys. in_intervals ys c) more
    ∙ in_intervals-below (interval_at (ends_of xs) k) (drop (k + 1) (ends_of xs)) c (subst IntervalsRise more (IntervalsRise-drop k (ends_of xs) rise)) (omega arith)

-- one more interval is added
pub added-more : (xs : List Interval) (k : ℕ) (i : Interval) (c : ℕ) (old new : Bool) → k < length xs → i ≡ get_or xs k i → new ≡ (old || in_interval i c)
    → (new || in_intervals (drop (k + 1) (ends_of xs)) c) ≡ (old || in_intervals (drop k (ends_of xs)) c)
added-more xs k i c old new within is told =
    let rest = in_intervals (drop (k + 1) (ends_of xs)) c in
    ap (λ b. b || rest) told ∙ or_assoc old (in_interval i c) rest ∙ ap (λ b. old || b) (sym (held-from xs k i c within is))

module _ (xs : List Interval) (i : Interval) (rise : IntervalsRise (ends_of xs)) (last : slice_get xs (length xs - 1) ≡ Some i) where
  there : length xs - 1 < length xs
  there = slice_get_within xs (length xs - 1) i last

  same : get_or xs (length xs - 1) first_interval ≡ i
  same = get_or_from_slice_get xs (length xs - 1) i first_interval last

  -- what intervals hold lies no higher than the last of them ends
  pub held-below : (c : ℕ) → in_intervals (ends_of xs) c ≡ true → c ≤ i.last
  held-below c held =
      let r = in_intervals-place (ends_of xs) c held in
      let here : r.0 < length xs = omega (arith, r.1, length-map xs ends) in
      let own = ap (λ p. p.1) (interval_at-ends_of xs r.0 first_interval here) in
      let top = (rises xs r.0 (length xs - 1) first_interval rise (omega arith) there).1 in
      omega (arith, r.3, own, top, ap (λ j. j.last) same)

  -- and its end they hold
  pub last-held : in_intervals (ends_of xs) i.last ≡ true
  last-held =
      let at = interval_at-ends_of xs (length xs - 1) first_interval there ∙ ap ends same in
      let own = i.ordered in
      let first = ap (λ p. p.0) at in
      let end = ap (λ p. p.1) at in
      in_intervals-at (ends_of xs) (length xs - 1) i.last (omega (arith, there, length-map xs ends)) (omega arith) (omega arith)
