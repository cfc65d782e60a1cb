-- How what a search for many matches shows grows.
use Rattle.std.specs.Prelude.{◌≡◌, ℕ, Bool, true, false, zero, suc, ◌+◌, ◌-◌, ◌*◌, ◌/◌, ◌<◌, ◌≤◌, ◌⊎◌, nat_lt, List, [], ◌∷◌, ◌++◌, length, map, drop, Option, Some, None, option_map, slice_get, slice_range}
use Rattle.std.proofs.Common.{refl, sym, ap, subst, ◌∙◌, inl, inr, arith, append_assoc}
use Rattle.std.proofs.Math.Nat.{div-lt_iff_lt-mul, le-div_iff_mul-le, mul-le-mul_right, suc-mul}
use Rattle.std.proofs.lemmas.Option.{slice_get_within}
use Rattle.std.proofs.lemmas.Slice.{between-put_mid, take-put_mid_below, between_is}
use borrow.Rule.Slice.PartMut.{put_mid}
use Rattle.std.proofs.lemmas.Bool.Decides.{nat_tests}
use Rattle.std.proofs.lemmas.List.{length-append, length-map, map-append}
use Rattle.std.proofs.lemmas.List.Elements.{All-head}
use Rattle.std.specs.declared.ops.Range.{Range}
use Rattle.regress_meaning.specs.Flags.{Options}
use Rattle.regress_meaning.specs.Laws.{IsItemInside}
use Rattle.regress_meaning.specs.Matches.{Item, first_match, match_list, next_place}
use Rattle.regress_meaning.specs.Offsets.{Begins, Reading, told}
use Rattle.regress_meaning.specs.Pattern.{Pattern}
use Rattle.regress_meaning.specs.Table.{Table}
use Rattle.regress_meaning.proofs.MatchLemmas.{matches_bounded, matches_end, matches_go, matches_lie}
use Rattle.regress.specs.declared.api.Regex.{Regex}
use Rattle.regress.specs.Standing.{names_of_regex}
use Rattle.regress_calls.specs.declared.text.Text.{Text}
use Rattle.regress_calls.specs.Ranges.{IsAnswerTo, ShowsItem}
use Rattle.regress_calls.specs.Many.{FoundAsManyAsFit, FoundMany, IsNext, ShowsItems}
use Rattle.regress_calls.specs.Slotted.{IsInSlots}
use Rattle.regress_calls.specs.Texts.{IsRangeOf, StandsIn, reading_of_text}
use Rattle.regress_calls.specs.declared.text_range.TextRange.{TextRange}

-- a match fits where fewer are there than fit
pub room-for-more : (found room width : ℕ) → 0 < width → found < room / width → found * width + width ≤ room
room-for-more found room width some less =
    let fits : suc found * width ≤ room = (le-div_iff_mul-le {k = width} {x = suc found} {y = room} some).0 less in
    omega (arith, fits, suc-mul found width)

-- and none does where as many are
pub no-more-room : (found room width : ℕ) → 0 < width → room / width ≤ found → room < (found + 1) * width
no-more-room found room width some full = (div-lt_iff_lt-mul {k = width} {x = room} {y = found + 1} some).0 (omega (arith, full))

-- an element of a list with one more at its end
last_or_before : {X : Type 0} (xs : List X) (y z : X) (k : ℕ) → slice_get (xs ++ y ∷ []) k ≡ Some z
    → (slice_get xs k ≡ Some z) ⊎ ((k ≡ length xs) × (y ≡ z))
last_or_before [] y z zero e = inr (refl, cc)
last_or_before [] y z (suc k) e = absurd (cc)
last_or_before (x ∷ xs) y z zero e = inl e
last_or_before (x ∷ xs) y z (suc k) e = elim (last_or_before xs y z k e) [ inl before ↦ inl before | inr (at, is) ↦ inr (ap suc at, is) ]

-- what lies before a part that is written stays
range-before : (at width : ℕ) (xs ys : List TextRange) (i j : ℕ) → j ≤ at → at ≤ length xs → slice_range (put_mid at width xs ys) i j ≡ slice_range xs i j
range-before at width xs ys i j before within =
    between_is (put_mid at width xs ys) i j ∙ ap (λ (part : List TextRange). drop i part) (take-put_mid_below at width xs ys j before within) ∙ sym (between_is xs i j)

-- one more match is shown behind those that are
pub shows-more : (groups width : ℕ) (items : List Item) (i : Item) (xs ys : List TextRange)
    → ShowsItems groups width items xs → ShowsItem groups i ys → length ys ≡ width → length items * width + width ≤ length xs
    → ShowsItems groups width (items ++ i ∷ []) (put_mid (length items * width) width xs ys)
shows-more groups width items i xs ys shown here long room k j e = elim (last_or_before items i j k e) [
  | inl before ↦
      let below : k < length items = slice_get_within items k j before in
      let ends : k * width + width ≤ length items * width = omega (arith, suc-mul k width, mul-le-mul_right {m = suc k} {n = length items} width (omega arith)) in
      subst (λ (part : List TextRange). ShowsItem groups j part)
      (sym (range-before (length items * width) width xs ys (k * width) (k * width + width) ends (omega arith)))
      (shown k j before)
  | inr (at, is) ↦
      let part : slice_range (put_mid (length items * width) width xs ys) (length items * width) (length items * width + width) ≡ ys
      = between-put_mid (length items * width) width xs ys (length items * width + width) (omega arith) (omega (arith, long)) in
      subst (λ (n : ℕ). ShowsItem groups j (slice_range (put_mid (length items * width) width xs ys) (n * width) (n * width + width))) (sym at)
      (subst (λ (part : List TextRange). ShowsItem groups j part) (sym part) (subst (λ (m : Item). ShowsItem groups m ys) is here))
]

-- and without one more, those that are still are
shows-still : (groups width : ℕ) (items : List Item) (xs ys : List TextRange)
    → ShowsItems groups width items xs → length items * width ≤ length xs
    → ShowsItems groups width items (put_mid (length items * width) width xs ys)
shows-still groups width items xs ys shown room k j e =
    let below : k < length items = slice_get_within items k j e in
    let ends : k * width + width ≤ length items * width = omega (arith, suc-mul k width, mul-le-mul_right {m = suc k} {n = length items} width (omega arith)) in
    subst (λ (part : List TextRange). ShowsItem groups j part)
    (sym (range-before (length items * width) width xs ys (k * width) (k * width + width) ends (omega arith)))
    (shown k j e)

module _ (r : Reading) (matches : ℕ → List Item) (groups width place : ℕ) where
  -- at first none is found
  pub none-yet : (at : ℕ) (ranges : List TextRange) → Begins r at place → FoundMany r matches groups width place 0 at ranges
  none-yet at ranges begins = record { first = []; later = place; listed = refl; counted = refl; shown = λ k i e. absurd cc; begins = begins }

  -- one more
  pub many-more : (found at next : ℕ) (xs ys : List TextRange) (part : ℕ) → part ≡ width → FoundMany r matches groups width place found at xs
      → ((p : ℕ) → Begins r at p → IsNext r matches groups p true next ys) → length ys ≡ width → found * width + width ≤ length xs
      → FoundMany r matches groups width place (found + 1) next (put_mid (found * width) part xs ys)
  many-more found at next xs ys part is many step long room =
      let (i, later, listed, shown, begins) = step many.later many.begins in
      let items = map (told r) many.first in
      let count : length items ≡ found = length-map many.first (told r) ∙ sym many.counted in
      subst (λ (n : ℕ). FoundMany r matches groups width place (found + 1) next (put_mid (found * width) n xs ys)) (sym is)
      record {
        first = many.first ++ i ∷ [];
        later = later;
        listed = many.listed ∙ ap (λ (l : List Item). many.first ++ l) listed ∙ sym (append_assoc many.first (i ∷ []) (matches later));
        counted = let e = length-append many.first (i ∷ []) in omega (arith, e, many.counted);
        shown = subst (λ (l : List Item). ShowsItems groups width l (put_mid (found * width) width xs ys)) (sym (map-append (told r) many.first (i ∷ [])))
            (subst (λ (n : ℕ). ShowsItems groups width (items ++ told r i ∷ []) (put_mid (n * width) width xs ys)) count
            (shows-more groups width items (told r i) xs ys many.shown shown long (subst (λ (n : ℕ). n * width + width ≤ length xs) (sym count) room)));
        begins = begins;
      }

  still-shown : (found at : ℕ) (xs ys : List TextRange) → (many : FoundMany r matches groups width place found at xs) → found * width ≤ length xs
      → ShowsItems groups width (map (told r) many.first) (put_mid (found * width) width xs ys)
  still-shown found at xs ys many room =
      let items = map (told r) many.first in
      let count : length items ≡ found = length-map many.first (told r) ∙ sym many.counted in
      subst (λ (n : ℕ). ShowsItems groups width items (put_mid (n * width) width xs ys)) count
      (shows-still groups width items xs ys many.shown (subst (λ (n : ℕ). n * width ≤ length xs) (sym count) room))

  -- those that were found stay so where memory behind them is written
  pub many-still : (found at next : ℕ) (xs ys : List TextRange) (part : ℕ) → part ≡ width → FoundMany r matches groups width place found at xs → found * width ≤ length xs → next ≡ at
      → FoundMany r matches groups width place found next (put_mid (found * width) part xs ys)
  many-still found at next xs ys part is many room same = subst (λ (n : ℕ). FoundMany r matches groups width place found next (put_mid (found * width) n xs ys)) (sym is) record {
    first = many.first;
    later = many.later;
    listed = many.listed;
    counted = many.counted;
    shown = still-shown found at xs ys many room;
    begins = subst (λ (n : ℕ). Begins r n many.later) (sym same) many.begins;
  }

  -- and they are all where there is no other
  pub many-ended : (found at next : ℕ) (xs ys : List TextRange) (part : ℕ) → part ≡ width → FoundMany r matches groups width place found at xs
      → ((p : ℕ) → Begins r at p → IsNext r matches groups p false next ys) → found * width ≤ length xs
      → FoundAsManyAsFit r matches groups width place found next (put_mid (found * width) part xs ys)
  many-ended found at next xs ys part is many step room =
      let (later, none, ended, begins) = step many.later many.begins in
      subst (λ (n : ℕ). FoundAsManyAsFit r matches groups width place found next (put_mid (found * width) n xs ys)) (sym is)
      record {
        many = record {
          first = many.first;
          later = later;
          listed = many.listed ∙ ap (λ (l : List Item). many.first ++ l) (none ∙ sym ended);
          counted = many.counted;
          shown = still-shown found at xs ys many room;
          begins = begins;
        };
        all = λ _. ended;
      }

  -- where there is no room for one more, none is missing
  pub many-full : (found at : ℕ) (xs : List TextRange) → FoundMany r matches groups width place found at xs → length xs < (found + 1) * width
      → FoundAsManyAsFit r matches groups width place found at xs
  many-full found at xs many full = record { many = many; all = λ room. absurd (omega (arith, full, room)) }

-- The first match from a place on, as it stands in slots and is shown, is the next.
module _ (r : Reading) (t : Table) (o : Options) (p : Pattern) (groups place : ℕ) (found : Option (Range ℕ)) (slots filled : List (Option (Range ℕ)))
    (old new : List TextRange) (count next : ℕ) (goes : (i : Item) → IsItemInside r.points i → IsRangeOf r i found → Begins r next (next_place i))
    (past : found ≡ None → Begins r next (length r.points + 1)) where
  abbrev matches : ℕ → List Item
  matches = match_list t o p r.points

  -- past the end there is no match
  none-past : matches (length r.points + 1) ≡ []
  none-past = by_list (matches (length r.points + 1)) (matches_bounded t o p r.points (length r.points + 1))
    where
      by_list : (l : List Item) → length l ≤ length r.points + 1 - (length r.points + 1) → l ≡ []
      by_list [] h = refl
      by_list (i ∷ l) h = absurd (omega (arith, h))

  -- behind the first are those from the next place on
  go-on : (i : Item) (items : List Item) → matches place ≡ i ∷ items → matches place ≡ i ∷ matches (next_place i)
  go-on i items e = by_first (first_match t o p r.points place) refl
    where
      by_first : (m : Option Item) → first_match t o p r.points place ≡ m → matches place ≡ i ∷ matches (next_place i)
      by_first None none = let empty = matches_end t o p r.points place none in absurd (cc (e, empty))
      by_first (Some j) some =
          let goes = matches_go t o p r.points place j some in
          let same : j ≡ i = cc (e, goes) in
          subst (λ (k : Item). matches place ≡ k ∷ matches (next_place k)) same goes

  pub next-shown : IsInSlots (option_map (told r) (slice_get (matches place) 0)) slots found filled
      → IsAnswerTo groups (option_map (told r) (slice_get (matches place) 0)) old count new
      → IsNext r matches groups place (nat_lt 0 count) next new
  next-shown = by_list (matches place) refl
    where
      by_list : (l : List Item) → matches place ≡ l → IsInSlots (option_map (told r) (slice_get l 0)) slots found filled
          → IsAnswerTo groups (option_map (told r) (slice_get l 0)) old count new → IsNext r matches groups place (nat_lt 0 count) next new
      by_list [] e held answer =
          subst (λ (n : ℕ). IsNext r matches groups place (nat_lt 0 n) next new) (sym answer.0) (length r.points + 1, e, none-past, past held.0)
      by_list (i ∷ items) e held answer =
          let lies : IsItemInside r.points i = All-head (IsItemInside r.points) i items (rw e at (matches_lie t o p r.points place)) in
          let many : nat_lt 0 (groups + 1) ≡ true = grind (arith, nat_tests) in
          subst (λ (b : Bool). IsNext r matches groups place b next new) (sym (ap (nat_lt 0) answer.0 ∙ many))
          (i, next_place i, go-on i items e, answer.1, goes i lies held.0)

-- what the next match of a regex in a text is, from a start on
abbrev pub NextAfter : Text → Regex → (start : ℕ) → (found : Bool) → (next : ℕ) → List TextRange → Type 0
NextAfter text regex start found next ranges = (t : Table) → (o : Options) → (p : Pattern) → StandsIn text regex t o p → (place : ℕ) → Begins (reading_of_text text) start place
    → IsNext (reading_of_text text) (match_list t o p (reading_of_text text).points) (length (names_of_regex regex)) place found next ranges

-- so it is of the same regex
pub next-after : (text : Text) (held regex : Regex) (start : ℕ) (found : Bool) (next : ℕ) (ranges : List TextRange) → held ≡ regex
    → NextAfter text held start found next ranges → NextAfter text regex start found next ranges
next-after text held regex start found next ranges same after = subst (λ (r : Regex). NextAfter text r start found next ranges) same after
