-- Which surrogates intervals hold, and what of ASCII identifiers may hold.
use Rattle.std.proofs.Common.{◌≡◌, ℕ, ◌<◌, ◌≤◌, ◌&&◌, ◌||◌, nat_le, Bool, true, false, cond, List, [], ◌∷◌, Option, Some, refl, ap, inl, inr, arith}
use Rattle.std.specs.Prelude.{max}
use Rattle.std.specs.List.{find, list_any}
use Rattle.std.specs.Option.{option_map}
use Rattle.std.proofs.lemmas.Bool.{false≢true, or_cases, or_left, or_right, both_ways, and_left, lt-leb, cases_lt}
use Rattle.std.proofs.lemmas.Bool.Decides.{nat_tests}
use Rattle.regress_meaning.specs.Text.{between}
use Rattle.regress_meaning.specs.TableParts.{in_intervals, is_surrogate, IntervalsRise, KeepsIdentifierAt}
use Rattle.regress_front_sets.specs.declared.interval.Interval.{Interval}
use Rattle.regress_front_tables.specs.declared.tables.parts.TableParts.{TableParts}
use Rattle.regress_front_sets.specs.Intervals.{ends, ends_of, in_interval}
use Rattle.regress_front_sets.proofs.IntervalLemmas.{in_intervals-after_first, IntervalsRise-first, IntervalsRise-rest}
use Rattle.regress_front_tables.specs.Parts.{parts_of}
use Rattle.regress_front_tables.specs.Telling.{TellsLeast, lesser}
use Rattle.regress_front_tables.proofs.TellingLemmas.{TellsLeast-same, TellsLeast-both}

-- ---- surrogates

-- the interval holds a surrogate
abbrev pub meets_surrogates : Interval → Bool
meets_surrogates i = nat_le 0xD800 i.last && nat_le i.first 0xDFFF

-- what lies in the intervals is no surrogate
abbrev pub IsNoSurrogate : List Interval → ℕ → Type 0
IsNoSurrogate intervals c = in_intervals (ends_of intervals) c ≡ true → is_surrogate c ≡ false

-- a surrogate lies from D800 to DFFF
surrogate-below : (c : ℕ) → c < 0xD800 → is_surrogate c ≡ false
surrogate-below c l = and_left _ _ (lt-leb 0xD800 c l)

-- what the first interval adds to the others
IsNoSurrogate-cons : (i : Interval) (rest : List Interval) (c : ℕ) → (between i.first i.last c ≡ true → is_surrogate c ≡ false)
    → IsNoSurrogate rest c → IsNoSurrogate (i ∷ rest) c
unfolding in_intervals
IsNoSurrogate-cons i rest c first others h =
    elim (or_cases (between i.first i.last c) _ h) [ inl here ↦ first here | inr behind ↦ others behind ]

IsNoSurrogate-rest : (i : Interval) (rest : List Interval) (c : ℕ) → IsNoSurrogate (i ∷ rest) c → IsNoSurrogate rest c
unfolding in_intervals
IsNoSurrogate-rest i rest c h behind = h (or_right (between i.first i.last c) _ behind)

-- an interval that meets no surrogate holds none
meets-none : (i : Interval) (c : ℕ) → meets_surrogates i ≡ false → between i.first i.last c ≡ true → is_surrogate c ≡ false
meets-none i c none here = grind (arith, nat_tests)

-- an interval that meets surrogates holds its first code point or the first surrogate, whichever is greater
meets-first : (i : Interval) → i.first ≤ i.last → meets_surrogates i ≡ true
    → (between i.first i.last (max i.first 0xD800) ≡ true) × (is_surrogate (max i.first 0xD800) ≡ true)
meets-first i ordered meets = (grind (arith, nat_tests), grind (arith, nat_tests))

-- below that there is no surrogate in it, nor in the intervals behind it
meets-least : (i : Interval) (rest : List Interval) (d : ℕ) → IntervalsRise (ends_of (i ∷ rest)) → i.first ≤ i.last
    → d < max i.first 0xD800 → IsNoSurrogate (i ∷ rest) d
meets-least i rest d rise ordered l =
    elim (cases_lt d 0xD800) [
      | inl low ↦ λ h. surrogate-below d low
      | inr high ↦ IsNoSurrogate-cons i rest d (λ here. absurd (outside high here))
          (λ behind. absurd (both_ways _ (in_intervals-after_first (ends i) (ends_of rest) d rise (omega arith)) behind))
    ]
  where
    outside : 0xD800 ≤ d → between i.first i.last d ≡ true → ⊥
    outside high here = let under : d < i.first = omega arith in grind (arith, nat_tests)

-- The least surrogate is in the first interval that meets them: its first code point, or the first surrogate.
pub TellsLeast-surrogate : (intervals : List Interval) → IntervalsRise (ends_of intervals)
    → TellsLeast (option_map (λ i. max i.first 0xD800) (find meets_surrogates intervals)) (IsNoSurrogate intervals)
unfolding in_intervals
TellsLeast-surrogate [] rise = λ c h. absurd (false≢true h)
TellsLeast-surrogate (i ∷ rest) rise =
    go (meets_surrogates i) refl (IntervalsRise-first (ends i) (ends_of rest) rise).0
    (TellsLeast-surrogate rest (IntervalsRise-rest (ends i) (ends_of rest) rise))
  where
    go : (b : Bool) → meets_surrogates i ≡ b → i.first ≤ i.last
        → TellsLeast (option_map (λ j. max j.first 0xD800) (find meets_surrogates rest)) (IsNoSurrogate rest)
        → TellsLeast (option_map (λ j. max j.first 0xD800) (cond b (Some i) (find meets_surrogates rest))) (IsNoSurrogate (i ∷ rest))
    go true e ordered told =
        let first = meets-first i ordered e in
        record {
          holds = λ h. both_ways _ (h (or_left (between i.first i.last (max i.first 0xD800)) _ first.0)) first.1;
          least = λ d l broken. broken (meets-least i rest d rise ordered l);
        }
    go false e ordered told =
        TellsLeast-same (IsNoSurrogate rest) (IsNoSurrogate (i ∷ rest)) (λ c. IsNoSurrogate-cons i rest c (meets-none i c e)) (IsNoSurrogate-rest i rest) _ told

-- ---- identifiers

-- what identifiers may hold: of ASCII what fits, and no surrogate
pub TellsLeast-identifier : (parts : TableParts) (ascii start further : Option ℕ)
    → TellsLeast ascii (λ c. c < 0x80 → KeepsIdentifierAt (parts_of parts) c)
    → TellsLeast start (IsNoSurrogate parts.id_start.items) → TellsLeast further (IsNoSurrogate parts.id_continue.items)
    → TellsLeast (lesser ascii (lesser start further)) (KeepsIdentifierAt (parts_of parts))
TellsLeast-identifier parts ascii start further a s f =
    let Fits : ℕ → Type 0 = λ c. c < 0x80 → KeepsIdentifierAt (parts_of parts) c in
    let Starts : ℕ → Type 0 = IsNoSurrogate parts.id_start.items in
    let GoesOn : ℕ → Type 0 = IsNoSurrogate parts.id_continue.items in
    TellsLeast-same (λ c. Fits c × (Starts c × GoesOn c)) (KeepsIdentifierAt (parts_of parts))
    (λ c h. (λ held. (λ l. ((h.0 l).0 held).0 l, h.1.0 held), λ held. (λ l. ((h.0 l).1 held).0 l, h.1.1 held)))
    (λ c h. (λ l. h, (λ held. (h.0 held).1, λ held. (h.1 held).1))) _
    (TellsLeast-both Fits (λ c. Starts c × GoesOn c) ascii (lesser start further) a
    (TellsLeast-both Starts GoesOn start further s f))

-- whether one of the intervals holds it
pub in_intervals-any : (intervals : List Interval) (c : ℕ) → list_any (λ i. in_interval i c) intervals ≡ in_intervals (ends_of intervals) c
unfolding in_intervals
in_intervals-any [] c = refl
in_intervals-any (i ∷ rest) c = ap (λ b. in_interval i c || b) (in_intervals-any rest c)
