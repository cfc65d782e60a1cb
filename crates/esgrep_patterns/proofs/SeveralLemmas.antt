-- What is found of several patterns.
use Rattle.std.proofs.Common.{◌≡◌, ◌≢◌, ◌⊎◌, Bool, true, false, ℕ, zero, suc, ◌+◌, ◌≤◌, ◌<◌, List, [], ◌∷◌, ◌++◌, length, map, chars, Option, Some, None, Result, Ok, Err, IfOk, get_or, inl, inr, refl, sym, ap, subst, ◌∙◌, arith, append_assoc, append-nil, if◌then◌else◌}
use Rattle.std.specs.Prelude.{◌==◌, ◌↔◌, IsTrue}
use Rattle.std.proofs.lemmas.List.{map-append}
use Rattle.std.proofs.lemmas.Bool.{eqb-true, eqb-false, cases_lt}
use Rattle.std.specs.Str.{IsUtf8}
use Rattle.regress_meaning.specs.Matches.{Item, next_place, match_list}
use Rattle.regress_meaning.proofs.MatchLemmas.{matches_end, matches_go}
use Rattle.regress_meaning.specs.Offsets.{of_utf8, offset, Begins}
use Rattle.regress_front_bytes.proofs.TextLemmas.{offset_of_end}
use Rattle.regress_engine_input.proofs.Utf8Texts.{utf8_rise}
use Rattle.regress_match.specs.declared.found.Match.{Match}
use Rattle.regress_match.specs.Views.{item_of}
use Rattle.regress.specs.Coming.{IsStart}
use Rattle.regress.specs.declared.api.Regex.{Regex}
use Rattle.esgrep_rows.specs.Found.{Found, found_of, found_at}
use Rattle.esgrep_patterns.specs.Seeking.{Sought, Hit, leftmost, leftmost_of, hits_from, found_hit, found_in, found_of_several, found_of_all, IsHit, Seeks, SeekAll}
use Rattle.esgrep_patterns.proofs.HitLemmas.{places-order, offsets-order, first, hit, leftmost-some, leftmost-later, leftmost-past}

-- where the search goes on behind an item that takes something, and behind one that takes nothing
pub next-taken : (i : Item) → i.start < i.end → next_place i ≡ i.end
next-taken i some = go (i.start == i.end) refl
  where
    go : (same : Bool) → (i.start == i.end) ≡ same → (if same then i.start + 1 else i.end) ≡ i.end
    go true is = absurd (let e = eqb-true i.start i.end is in omega (arith, some, e))
    go false is = refl

pub next-empty : (i : Item) → i.start ≡ i.end → next_place i ≡ i.start + 1
next-empty i none = go (i.start == i.end) refl
  where
    go : (same : Bool) → (i.start == i.end) ≡ same → (if same then i.start + 1 else i.end) ≡ i.start + 1
    go true is = refl
    go false is = absurd (eqb-false i.start i.end is none)

-- it goes on later
pub next-later : (i : Item) → i.start ≤ i.end → i.start < next_place i
next-later i order = go (cases_lt i.start i.end)
  where
    go : (i.start < i.end) ⊎ (i.end ≤ i.start) → i.start < next_place i
    go (inl some) = let e = next-taken i some in omega (arith, e, some)
    go (inr none) = let e = next-empty i (omega (arith, order, none)) in omega (arith, e)

module _ (bytes : List ℕ) (utf8 : IsUtf8 bytes) (m : Match) (h : Hit) (is : IsHit bytes m h) where
  start : m.range.start ≡ offset (of_utf8 bytes) h.item.start
  start = ap (λ i. i.start) is.item

  end : m.range.end ≡ offset (of_utf8 bytes) h.item.end
  end = ap (λ i. i.end) is.item

  -- behind a match that takes something the search goes on at its end
  pub begins-end : m.range.start < m.range.end → Begins (of_utf8 bytes) m.range.end (next_place h.item)
  begins-end some = rw (next-taken h.item (go (cases_lt h.item.start h.item.end))) (inl (is.within, sym end))
    where
      go : (h.item.start < h.item.end) ⊎ (h.item.end ≤ h.item.start) → h.item.start < h.item.end
      go (inl less) = less
      go (inr none) = absurd (
          let order = offsets-order bytes h.item.end h.item.start (omega (arith, is.order, is.within)) none in
          omega (arith, some, start, end, order))

  -- behind an empty match it goes on at the next place
  empty : m.range.end ≤ m.range.start → h.item.start ≡ h.item.end
  empty none =
      let back = places-order bytes h.item.end h.item.start is.within (omega (arith, none, start, end)) in
      omega (arith, is.order, back)

  pub begins-next : m.range.end ≤ m.range.start → (next : ℕ) → m.range.end < next → ((k : ℕ) → m.range.end < k → k < next → IsStart bytes k → ⊥)
      → (length bytes < next) ⊎ IsStart bytes next → Begins (of_utf8 bytes) next (next_place h.item)
  begins-next none next after between reached =
      let place = h.item.start in
      let same = empty none in
      rw (next-empty h.item same) (go (cases_lt place (length (chars bytes))) reached)
    where
      -- the next place, where there is one, is no later than where the search goes on
      near : h.item.start < length (chars bytes) → next ≤ offset (of_utf8 bytes) (h.item.start + 1)
      near room = by (cases_lt (offset (of_utf8 bytes) (h.item.start + 1)) next)
        where
          by : (offset (of_utf8 bytes) (h.item.start + 1) < next) ⊎ (next ≤ offset (of_utf8 bytes) (h.item.start + 1)) → next ≤ offset (of_utf8 bytes) (h.item.start + 1)
          by (inr most) = most
          by (inl less) = absurd (
              let later = utf8_rise bytes h.item.start (h.item.start + 1) (omega arith) (omega (arith, room)) in
              between (offset (of_utf8 bytes) (h.item.start + 1)) (omega (arith, none, start, later)) less (h.item.start + 1, inl (omega (arith, room), refl)))

      go : (h.item.start < length (chars bytes)) ⊎ (length (chars bytes) ≤ h.item.start) → (length bytes < next) ⊎ IsStart bytes next
          → Begins (of_utf8 bytes) next (h.item.start + 1)
      go (inl room) (inl past) = absurd (
          let most = offsets-order bytes (h.item.start + 1) (length (chars bytes)) (omega arith) (omega (arith, room)) in
          omega (arith, near room, most, offset_of_end bytes utf8, past))
      go (inl room) (inr (q, inl at)) =
          let low = places-order bytes (h.item.start + 1) q (omega (arith, room)) (by_start q at) in
          let high = places-order bytes q (h.item.start + 1) at.0 (omega (arith, at.1, near room)) in
          let e : q ≡ h.item.start + 1 = omega (arith, low, high) in
          inl (omega (arith, room), rw (sym e) at.1)
        where
          by_start : (q : ℕ) → (q ≤ length (chars bytes)) × (offset (of_utf8 bytes) q ≡ next) → offset (of_utf8 bytes) (h.item.start + 1) ≤ offset (of_utf8 bytes) q
          by_start q at = by (cases_lt h.item.start q)
            where
              by : (h.item.start < q) ⊎ (q ≤ h.item.start) → offset (of_utf8 bytes) (h.item.start + 1) ≤ offset (of_utf8 bytes) q
              by (inl less) = offsets-order bytes (h.item.start + 1) q at.0 (omega (arith, less))
              by (inr back) = absurd (
                  let order = offsets-order bytes q h.item.start (omega (arith, room)) back in
                  omega (arith, order, start, at.1, after, ap (offset (of_utf8 bytes)) (empty none), end))
      go (inl room) (inr (q, inr past)) = absurd (
          let most = offsets-order bytes (h.item.start + 1) (length (chars bytes)) (omega arith) (omega (arith, room)) in
          omega (arith, near room, most, past.1))
      go (inr last) reached =
          let e : h.item.start ≡ length (chars bytes) = omega (arith, last, is.order, is.within) in
          inr (omega (arith, e), rw (← e) (omega (arith, after, ap (offset (of_utf8 bytes)) (empty none), end, start)))

  -- what is found
  pub found-hit : (template : Option (List ℕ)) → found_of template bytes m ≡ found_hit template bytes h
  found-hit template = ap (λ names. found_at template names bytes (item_of m)) is.names ∙ ap (found_at template h.names bytes) is.item

-- one more hit was found
pub found-next : (template : Option (List ℕ)) (bytes : List ℕ) (ms : List Match) (m : Match) (h : Hit) (after : List Hit) (all : List Found)
    → found_of template bytes m ≡ found_hit template bytes h → map (found_of template bytes) ms ++ map (found_hit template bytes) (h ∷ after) ≡ all
    → map (found_of template bytes) (ms ++ m ∷ []) ++ map (found_hit template bytes) after ≡ all
found-next template bytes ms m h after all same found =
    ap (λ fs. fs ++ map (found_hit template bytes) after) (map-append (found_of template bytes) ms (m ∷ []))
    ∙ append_assoc (map (found_of template bytes) ms) (found_of template bytes m ∷ []) (map (found_hit template bytes) after)
    ∙ ap (λ f. map (found_of template bytes) ms ++ f ∷ map (found_hit template bytes) after) same
    ∙ found

-- no more hits are coming
pub hits-end : (text : List ℕ) (ss : List Sought) (n place : ℕ) → leftmost text ss place ≡ None → hits_from text ss n place ≡ []
unfolding hits_from
hits-end text ss zero place none = refl
hits-end text ss (suc n) place none = rw (hits_from, none) refl

-- a hit is coming, and then those behind it
pub hits-go : (text : List ℕ) (ss : List Sought) (n place : ℕ) (h : Hit) → leftmost text ss place ≡ Some h
    → hits_from text ss (suc n) place ≡ h ∷ hits_from text ss n (next_place h.item)
unfolding hits_from
hits-go text ss n place h some = rw (hits_from, some) refl

-- of patterns that are not one alone the hits are found
pub several : (regexes : List Regex) (ss : List Sought) → SeekAll regexes ss → length regexes ≢ 1 → (template : Option (List ℕ)) (text : List ℕ)
    → found_of_all ss template text ≡ found_of_several ss template text
several [] [] seek many template text = refl
several [] (s ∷ ss) seek many template text = absurd seek
several (r ∷ regexes) [] seek many template text = absurd seek
several (r ∷ []) (s ∷ []) seek many template text = absurd (many refl)
several (r ∷ []) (s ∷ t ∷ ss) seek many template text = absurd seek.1
several (r ∷ q ∷ regexes) (s ∷ []) seek many template text = absurd seek.1
several (r ∷ q ∷ regexes) (s ∷ t ∷ ss) seek many template text = refl

-- hits are found where the leftmost is one
pub several-some : (ss : List Sought) (template : Option (List ℕ)) (text : List ℕ) (b : Bool) → IsTrue b ↔ (leftmost (chars text) ss 0 ≢ None)
    → IsTrue b ↔ (found_of_several ss template text ≢ [])
several-some ss template text b is = (
  λ yes none. is.0 yes (by (leftmost (chars text) ss 0) refl none),
  λ some. is.1 (λ none. some (ap (map (found_hit template text)) (hits-end (chars text) ss (length (chars text) + 1) 0 none))),
)
  where
    by : (x : Option Hit) → leftmost (chars text) ss 0 ≡ x → found_of_several ss template text ≡ [] → x ≡ None
    by None is none = refl
    by (Some h) is none = absurd (
        let n : length (chars text) + 1 ≡ suc (length (chars text)) = omega arith in
        let go : found_of_several ss template text ≡ found_hit template text h ∷ _ =
        ap (λ n. map (found_hit template text) (hits_from (chars text) ss n 0)) n ∙ ap (map (found_hit template text)) (hits-go (chars text) ss (length (chars text)) 0 h is) in
        cc (sym none ∙ go))

-- a pattern without a match comes before the others
pub none-first : (bytes : List ℕ) (s : Sought) (ss : List Sought) → match_list s.table s.options s.pattern (chars bytes) 0 ≡ [] → leftmost (chars bytes) (s ∷ ss) 0 ≡ leftmost (chars bytes) ss 0
none-first bytes s ss none = go (first bytes 0 s) refl
  where
    go : (x : Option Item) → first bytes 0 s ≡ x → leftmost_of (chars bytes) 0 (hit s x) ss ≡ leftmost_of (chars bytes) 0 None ss
    go None is = refl
    go (Some i) is = absurd (let some = sym none ∙ matches_go s.table s.options s.pattern (chars bytes) 0 i is in cc some)

-- a pattern with a match comes before the others
pub any-first : (bytes : List ℕ) (s : Sought) (ss : List Sought) → match_list s.table s.options s.pattern (chars bytes) 0 ≢ [] → leftmost (chars bytes) (s ∷ ss) 0 ≢ None
any-first bytes s ss some = go (first bytes 0 s) refl
  where
    go : (x : Option Item) → first bytes 0 s ≡ x → leftmost_of (chars bytes) 0 (hit s x) ss ≢ None
    go None is = absurd (some (matches_end s.table s.options s.pattern (chars bytes) 0 is))
    go (Some i) is = leftmost-some bytes 0 (hit s (Some i)) ss (λ none. cc none)

-- of one regex the patterns are one
pub one-alone : (regexes : List Regex) (ss : List Sought) (regex : Regex) → length regexes ≡ 1 → regex ≡ get_or regexes 0 regex → SeekAll regexes ss
    → (s : Sought) × (ss ≡ s ∷ []) × Seeks regex s
one-alone [] ss regex one is seek = absurd (omega (arith, one))
one-alone (r ∷ q ∷ regexes) ss regex one is seek = absurd (omega (arith, one))
one-alone (r ∷ []) [] regex one is seek = absurd seek
one-alone (r ∷ []) (s ∷ []) regex one is seek = (s, refl, subst (λ (x : Regex). Seeks x s) (sym is) seek.0)
one-alone (r ∷ []) (s ∷ t ∷ ss) regex one is seek = absurd seek.1

-- of one regex its matches are found
pub found-alone : (regexes : List Regex) (ss : List Sought) (regex : Regex) → length regexes ≡ 1 → regex ≡ get_or regexes 0 regex → SeekAll regexes ss
    → (template : Option (List ℕ)) (text : List ℕ) (all : List Found) → all ≡ found_of_all ss template text → (Q : Type 0)
    → ((s : Sought) → Seeks regex s → all ≡ found_in s.table s.options s.pattern template s.names text → Q) → Q
found-alone regexes ss regex one is seek template text all found Q last =
    let (s, alone, seeks) = one-alone regexes ss regex one is seek in
    last s seeks (found ∙ ap (λ ss. found_of_all ss template text) alone)

-- a list that is not some is none
pub list-none : {A : Type 0} → (xs : List A) → (xs ≢ [] → ⊥) → xs ≡ []
list-none [] not = refl
list-none (x ∷ xs) not = absurd (not (λ none. cc none))

-- of a test that may be refused
pub several-ok : {E : Type 0} (r : Result Bool E) (ss : List Sought) (template : Option (List ℕ)) (text : List ℕ) (all : List Found) → all ≡ found_of_several ss template text
    → IfOk r (λ b. IsTrue b ↔ (leftmost (chars text) ss 0 ≢ None)) → IfOk r (λ b. IsTrue b ↔ (all ≢ []))
several-ok (Ok b) ss template text all is found = rw is (several-some ss template text b found)
several-ok (Err e) ss template text all is found = tt

-- a match was found that is a hit, and what comes behind it is still to come
pub found-step : (template : Option (List ℕ)) (bytes : List ℕ) → IsUtf8 bytes → (ss : List Sought) (n place : ℕ) (ms : List Match) (m : Match) (h : Hit)
    → leftmost (chars bytes) ss place ≡ Some h → IsHit bytes m h → length (chars bytes) + 1 ≤ n + place → (all : List Found)
    → map (found_of template bytes) ms ++ map (found_hit template bytes) (hits_from (chars bytes) ss n place) ≡ all
    → (left : ℕ) × (length (chars bytes) + 1 ≤ left + next_place h.item)
    × (map (found_of template bytes) (ms ++ m ∷ []) ++ map (found_hit template bytes) (hits_from (chars bytes) ss left (next_place h.item)) ≡ all)
found-step template bytes utf8 ss n place ms m h is hit room all found = go n room found
  where
    later : place ≤ h.item.start
    later = let low = leftmost-later bytes place None ss tt in rw is at low

    go : (n : ℕ) → length (chars bytes) + 1 ≤ n + place → map (found_of template bytes) ms ++ map (found_hit template bytes) (hits_from (chars bytes) ss n place) ≡ all
        → (left : ℕ) × (length (chars bytes) + 1 ≤ left + next_place h.item)
        × (map (found_of template bytes) (ms ++ m ∷ []) ++ map (found_hit template bytes) (hits_from (chars bytes) ss left (next_place h.item)) ≡ all)
    go zero room found = absurd (omega (arith, room, later, hit.order, hit.within))
    go (suc left) room found =
        let further = next-later h.item hit.order in
        let coming = ap (λ hs. map (found_of template bytes) ms ++ map (found_hit template bytes) hs) (sym (hits-go (chars bytes) ss left place h is)) in
        (left, omega (arith, room, later, further), found-next template bytes ms m h _ all (found-hit bytes utf8 m h hit template) (coming ∙ found))

-- no hit is still to come
pub found-end : (template : Option (List ℕ)) (bytes : List ℕ) (ss : List Sought) (n place : ℕ) (ms : List Match) (all : List Found)
    → leftmost (chars bytes) ss place ≡ None
    → map (found_of template bytes) ms ++ map (found_hit template bytes) (hits_from (chars bytes) ss n place) ≡ all → map (found_of template bytes) ms ≡ all
found-end template bytes ss n place ms all none found =
    sym (append-nil (map (found_of template bytes) ms))
    ∙ ap (λ hs. map (found_of template bytes) ms ++ map (found_hit template bytes) hs) (sym (hits-end (chars bytes) ss n place none)) ∙ found

-- from an offset past the end there is none
pub none-past : (bytes : List ℕ) → IsUtf8 bytes → (ss : List Sought) (place start : ℕ) → Begins (of_utf8 bytes) start place → length bytes < start
    → leftmost (chars bytes) ss place ≡ None
none-past bytes utf8 ss place start (inl at) past = absurd (
    let most = offsets-order bytes place (length (chars bytes)) (omega arith) at.0 in
    omega (arith, most, offset_of_end bytes utf8, at.1, past))
none-past bytes utf8 ss place start (inr over) past = leftmost-past bytes place ss (omega (arith, over.0))
