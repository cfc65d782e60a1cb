-- Matches that are hits, and which of them begins first.
use Rattle.std.proofs.Common.{◌≡◌, ◌≢◌, ◌⊎◌, All, Bool, true, false, zero, get_or, add-one, if◌then◌else◌, ℕ, suc, ◌+◌, ◌≤◌, ◌<◌, List, [], ◌∷◌, length, nat_lt, drop, chars, map, option_map, Option, Some, None, Result, Ok, Err, IfOk, IfSome, inl, inr, refl, sym, ap, subst, ◌∙◌, arith}
use Rattle.std.specs.Prelude.{slice_get}
use Rattle.std.specs.Option.{option_transpose}
use Rattle.std.proofs.lemmas.Bool.{lt-ltb, le-ltb, cases_lt}
use Rattle.regress_meaning.specs.Laws.{IsItemInside}
use Rattle.regress_meaning.specs.Matches.{Item, first_match, match_list}
use Rattle.regress_meaning.specs.Offsets.{of_utf8, offset, told, Begins}
use Rattle.regress_meaning.proofs.MatchLemmas.{matches_end, matches_go, matches_lie, first_match-later}
use Rattle.regress_engine_input.proofs.Utf8Texts.{utf8_rise}
use Rattle.regress_match.specs.declared.found.Match.{Match}
use Rattle.regress_match.specs.Iterating.{GivesFirst}
use Rattle.regress_match.specs.Views.{item_of}
use Rattle.regress_front_core.specs.declared.error.Error.{Error}
use Rattle.regress_match.specs.GroupViews.{names_of_match}
use Rattle.regress.specs.declared.api.Regex.{Regex}
use Rattle.regress.proofs.IterationLemmas.{first-given}
use Rattle.esgrep_patterns.specs.Seeking.{Sought, Hit, sooner, first_hit, leftmost_of, leftmost, AreHits, IsHit, Seeks, SeekAll}

-- where offsets stand in order, places do
pub places-order : (bytes : List ℕ) (p q : ℕ) → p ≤ length (chars bytes) → offset (of_utf8 bytes) p ≤ offset (of_utf8 bytes) q → p ≤ q
places-order bytes p q within before = go (cases_lt q p)
  where
    go : (q < p) ⊎ (p ≤ q) → p ≤ q
    go (inl less) = absurd (let later = utf8_rise bytes q p less within in omega (arith, later, before))
    go (inr most) = most

-- where places stand in order, offsets do
pub offsets-order : (bytes : List ℕ) (p q : ℕ) → q ≤ length (chars bytes) → p ≤ q → offset (of_utf8 bytes) p ≤ offset (of_utf8 bytes) q
offsets-order bytes p q within before = go (cases_lt p q)
  where
    go : (p < q) ⊎ (q ≤ p) → offset (of_utf8 bytes) p ≤ offset (of_utf8 bytes) q
    go (inl less) = let later = utf8_rise bytes p q less within in omega (arith, later)
    go (inr most) = let same : p ≡ q = omega (arith, before, most) in rw same (omega arith)

-- the hit that an item of a pattern is
abbrev pub hit : Sought → Option Item → Option Hit
hit s x = option_map (λ i. record { item = i; names = s.names }) x

-- where a match begins that is a hit
start-of : (bytes : List ℕ) (m : Match) (h : Hit) → IsHit bytes m h → m.range.start ≡ offset (of_utf8 bytes) h.item.start
start-of bytes m h is = ap (λ i. i.start) is.item

-- of two matches the second begins first
pub second-sooner : (bytes : List ℕ) (m n : Match) (a b : Option Hit) → n.range.start < m.range.start → AreHits bytes (Some m) a → AreHits bytes (Some n) b
    → AreHits bytes (Some n) (sooner a b)
second-sooner bytes m n None b before first second = absurd first
second-sooner bytes m n (Some a) None before first second = absurd second
second-sooner bytes m n (Some a) (Some b) before first second =
    let later : b.item.start < a.item.start = go (cases_lt b.item.start a.item.start) in
    rw (lt-ltb b.item.start a.item.start later) second
  where
    go : (b.item.start < a.item.start) ⊎ (a.item.start ≤ b.item.start) → b.item.start < a.item.start
    go (inl less) = less
    go (inr most) = absurd (
        let within : b.item.start ≤ length (chars bytes) = omega (arith, second.order, second.within) in
        let order = offsets-order bytes a.item.start b.item.start within most in
        omega (arith, before, order, start-of bytes m a first, start-of bytes n b second))

-- of two matches the second does not begin first
pub first-sooner : (bytes : List ℕ) (m n : Match) (a b : Option Hit) → m.range.start ≤ n.range.start → AreHits bytes (Some m) a → AreHits bytes (Some n) b
    → AreHits bytes (Some m) (sooner a b)
first-sooner bytes m n None b before first second = absurd first
first-sooner bytes m n (Some a) None before first second = absurd second
first-sooner bytes m n (Some a) (Some b) before first second =
    let within : a.item.start ≤ length (chars bytes) = omega (arith, first.order, first.within) in
    let offsets : offset (of_utf8 bytes) a.item.start ≤ offset (of_utf8 bytes) b.item.start = omega (arith, before, start-of bytes m a first, start-of bytes n b second) in
    rw (le-ltb b.item.start a.item.start (places-order bytes a.item.start b.item.start within offsets)) first

module _ (bytes : List ℕ) (place : ℕ) (s : Sought) where
  -- the first match of a pattern, if there is one
  abbrev pub first : Option Item
  first = first_match s.table s.options s.pattern (chars bytes) place

  -- a first match lies in the text, at the place or behind
  pub first-lies : (i : Item) → first ≡ Some i → (place ≤ i.start) × (i.start ≤ i.end) × (i.end ≤ length (chars bytes))
  first-lies i is =
      let goes = matches_go s.table s.options s.pattern (chars bytes) place i is in
      let lies = subst (All (IsItemInside (chars bytes))) goes (matches_lie s.table s.options s.pattern (chars bytes) place) in
      let inside = lies 0 i (omega arith) in
      (first_match-later s.table s.options s.pattern (chars bytes) place i is, inside.range.0, inside.range.1)

  -- the head of the match list is the first match
  head : (x : Option Item) → first ≡ x → slice_get (match_list s.table s.options s.pattern (chars bytes) place) 0 ≡ x
  head None is = rw (matches_end s.table s.options s.pattern (chars bytes) place is) refl
  head (Some i) is = rw (matches_go s.table s.options s.pattern (chars bytes) place i is) refl

  -- a match that is the head of the match list is the first hit
  pub head-hit : (found : Option Match) → option_map item_of found ≡ option_map (told (of_utf8 bytes)) (slice_get (match_list s.table s.options s.pattern (chars bytes) place) 0)
      → IfSome found (λ m. names_of_match m ≡ s.names) → AreHits bytes found (first_hit (chars bytes) place s)
  head-hit found same named = go found first refl (same ∙ ap (option_map (told (of_utf8 bytes))) (head first refl)) named
    where
      go : (found : Option Match) (x : Option Item) → first ≡ x → option_map item_of found ≡ option_map (told (of_utf8 bytes)) x → IfSome found (λ m. names_of_match m ≡ s.names)
          → AreHits bytes found (hit s x)
      go None None is same named = tt
      go None (Some i) is same named = absurd (cc same)
      go (Some m) None is same named = absurd (cc same)
      go (Some m) (Some i) is same named =
          let lies = first-lies i is in
          let item : item_of m ≡ told (of_utf8 bytes) i = cc same in
          record { item = item; names = named; order = lies.1; within = lies.2 }

  -- a match that a step of an iterator gave first is the first hit
  pub given-hit : (IsMatch : Match → Type 0) (before after : List Item) (given : Option (Result Match Error)) → GivesFirst IsMatch before given after
      → before ≡ map (told (of_utf8 bytes)) (match_list s.table s.options s.pattern (chars bytes) place) → ((m : Match) → IsMatch m → names_of_match m ≡ s.names)
      → IfOk (option_transpose given) (λ found. AreHits bytes found (first_hit (chars bytes) place s))
  given-hit IsMatch before after None gives same named = head-hit None (first-given IsMatch before after None (told (of_utf8 bytes)) _ gives same) tt
  given-hit IsMatch before after (Some (Ok m)) gives same named =
      head-hit (Some m) (first-given IsMatch before after (Some (Ok m)) (told (of_utf8 bytes)) _ gives same) (named m gives.1)
  given-hit IsMatch before after (Some (Err e)) gives same named = tt

  -- a match that is a first hit does not begin before the offset that the place is at
  pub later-hit : (start : ℕ) → Begins (of_utf8 bytes) start place → (m : Match) → AreHits bytes (Some m) (first_hit (chars bytes) place s) → start ≤ m.range.start
  later-hit start begins m is = go first refl is
    where
      go : (x : Option Item) → first ≡ x → AreHits bytes (Some m) (hit s x) → start ≤ m.range.start
      go None none is = absurd is
      go (Some i) some is =
          let lies = first-lies i some in
          let here : m.range.start ≡ offset (of_utf8 bytes) i.start = start-of bytes m (record { item = i; names = s.names }) is in
          elim begins [
            | inl at ↦ let order = offsets-order bytes place i.start (omega (arith, lies.1, lies.2)) lies.0 in omega (arith, here, order, at.1)
            | inr past ↦ absurd (omega (arith, lies.0, lies.1, lies.2, past.0))
          ]

-- what holds of two hits holds of the sooner one
pub sooner-keeps : (P : Hit → Type 0) (a b : Option Hit) → IfSome a P → IfSome b P → IfSome (sooner a b) P
sooner-keeps P None b first second = second
sooner-keeps P (Some a) None first second = first
sooner-keeps P (Some a) (Some b) first second = go (nat_lt b.item.start a.item.start)
  where
    go : (less : Bool) → IfSome (if less then Some b else Some a) P
    go true = second
    go false = first

-- where there is a hit, the sooner of it and another is one
pub sooner-some : (a : Hit) (b : Option Hit) → sooner (Some a) b ≢ None
sooner-some a None none = cc none
sooner-some a (Some b) none = go (nat_lt b.item.start a.item.start) none
  where
    go : (less : Bool) → (if less then Some b else Some a) ≢ None
    go true none = cc none
    go false none = cc none

-- a hit is some match
pub hit-some : (text : List ℕ) (m : Match) (x : Option Hit) → AreHits text (Some m) x → (h : Hit) × (x ≡ Some h) × IsHit text m h
hit-some text m None is = absurd is
hit-some text m (Some h) is = (h, refl, is)

pub hit-none : (text : List ℕ) (x : Option Hit) → AreHits text None x → x ≡ None
hit-none text None is = refl
hit-none text (Some h) is = absurd is

-- the pattern that a regex at an index stands for
pub sought-at : (regexes : List Regex) (ss : List Sought) (k : ℕ) (regex : Regex) → regex ≡ get_or regexes k regex → k < length regexes → SeekAll regexes ss
    → (s : Sought) × Seeks regex s × (drop k ss ≡ s ∷ drop (suc k) ss)
sought-at [] ss k regex is room seek = absurd (omega (arith, room))
sought-at (r ∷ regexes) [] k regex is room seek = absurd seek
sought-at (r ∷ regexes) (s ∷ ss) zero regex is room seek = (s, subst (λ (x : Regex). Seeks x s) (sym is) seek.0, refl)
sought-at (r ∷ regexes) (s ∷ ss) (suc k) regex is room seek = sought-at regexes ss k regex is (omega (arith, room)) seek.1

-- there are no more patterns than regexes
pub sought-end : (regexes : List Regex) (ss : List Sought) → SeekAll regexes ss → drop (length regexes) ss ≡ []
sought-end [] [] seek = refl
sought-end [] (s ∷ ss) seek = absurd seek
sought-end (r ∷ regexes) [] seek = absurd seek
sought-end (r ∷ regexes) (s ∷ ss) seek = sought-end regexes ss seek.1

module _ (bytes : List ℕ) (place : ℕ) where
  -- a first hit is at the place or behind
  first_hit-later : (s : Sought) → IfSome (first_hit (chars bytes) place s) (λ h. place ≤ h.item.start)
  first_hit-later s = go (first bytes place s) refl
    where
      go : (x : Option Item) → first bytes place s ≡ x → IfSome (hit s x) (λ (h : Hit). place ≤ h.item.start)
      go None none = tt
      go (Some i) some = (first-lies bytes place s i some).0

  -- from a place past the end there is no first hit
  first_hit-past : length (chars bytes) < place → (s : Sought) → first_hit (chars bytes) place s ≡ None
  first_hit-past past s = go (first bytes place s) refl
    where
      go : (x : Option Item) → first bytes place s ≡ x → hit s x ≡ None
      go None none = refl
      go (Some i) some = absurd (let lies = first-lies bytes place s i some in omega (arith, past, lies.0, lies.1, lies.2))

  -- the first hit of the next pattern is looked at
  pub leftmost-next : (ss : List Sought) (k : ℕ) (found : Option Hit) (s : Sought) → drop k ss ≡ s ∷ drop (suc k) ss → (all : Option Hit)
      → leftmost_of (chars bytes) place found (drop k ss) ≡ all → leftmost_of (chars bytes) place (sooner found (first_hit (chars bytes) place s)) (drop (k + 1) ss) ≡ all
  leftmost-next ss k found s next all same = rw add-one (ap (leftmost_of (chars bytes) place found) (sym next) ∙ same)

  -- the first match of the next regex is looked at
  pub leftmost-step : (regexes : List Regex) (ss : List Sought) (k : ℕ) (regex : Regex) → regex ≡ get_or regexes k regex → k < length regexes → SeekAll regexes ss
      → (old next new : Option Match) → ((a b : Option Hit) → AreHits bytes old a → AreHits bytes next b → AreHits bytes new (sooner a b))
      → ((s : Sought) → Seeks regex s → AreHits bytes next (first_hit (chars bytes) place s))
      → (found : Option Hit) × AreHits bytes old found × (leftmost_of (chars bytes) place found (drop k ss) ≡ leftmost (chars bytes) ss place)
      → (found : Option Hit) × AreHits bytes new found × (leftmost_of (chars bytes) place found (drop (k + 1) ss) ≡ leftmost (chars bytes) ss place)
  leftmost-step regexes ss k regex is room seek old next new sooner-is first-is (found, here, same) =
      let (s, seeks, more) = sought-at regexes ss k regex is room seek in
      let first = first_hit (chars bytes) place s in
      (sooner found first, sooner-is found first here (first-is s seeks), leftmost-next ss k found s more (leftmost (chars bytes) ss place) same)

  -- the leftmost is at the place or behind
  pub leftmost-later : (hit : Option Hit) (ss : List Sought) → IfSome hit (λ h. place ≤ h.item.start) → IfSome (leftmost_of (chars bytes) place hit ss) (λ h. place ≤ h.item.start)
  leftmost-later hit [] later = later
  leftmost-later hit (s ∷ ss) later =
      leftmost-later (sooner hit (first_hit (chars bytes) place s)) ss (sooner-keeps (λ h. place ≤ h.item.start) hit (first_hit (chars bytes) place s) later (first_hit-later s))

  -- from a place past the end there is none
  pub leftmost-past : (ss : List Sought) → length (chars bytes) < place → leftmost (chars bytes) ss place ≡ None
  leftmost-past [] past = refl
  leftmost-past (s ∷ ss) past = rw (first_hit-past past s) (leftmost-past ss past)

  -- where there is a hit the leftmost is one
  pub leftmost-some : (hit : Option Hit) (ss : List Sought) → hit ≢ None → leftmost_of (chars bytes) place hit ss ≢ None
  leftmost-some hit [] some = some
  leftmost-some None (s ∷ ss) some = absurd (some refl)
  leftmost-some (Some h) (s ∷ ss) some = leftmost-some (sooner (Some h) (first_hit (chars bytes) place s)) ss (sooner-some h (first_hit (chars bytes) place s))
