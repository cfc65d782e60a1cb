-- In front of a candidate no match lies.
use Rattle.std.proofs.Common.{◌≡◌, ℕ, zero, suc, ◌+◌, ◌≤◌, ◌<◌, ◌⊎◌, inl, inr, ⊎_elim, Bool, true, false, not, ◌&&◌, ◌||◌, List, [], ◌∷◌, ◌++◌, length, take, drop, chars, map, slice_get, Option, None, Some, IfSome, refl, sym, ap, ap₂, subst, ◌∙◌, arith, append_assoc, append-nil, length-append, length-take, length-drop}
use Rattle.std.specs.Prelude.{nat_eq}
use Rattle.std.proofs.lemmas.Bool.{cases_lt}
use Rattle.std.proofs.lemmas.List.{drop-append-le, take-append-le}
use Rattle.std.proofs.lemmas.List.Elements.{All-head}
use Rattle.std.proofs.Math.Seq.{drop-append_seam}
use Rattle.std.specs.Str.{IsUtf8}
use Rattle.regress_meaning.specs.Meaning.{is_some_and}
use Rattle.regress_meaning.specs.Text.{holds}
use Rattle.regress_meaning.specs.Pattern.{names_of}
use Rattle.regress_meaning.specs.Matches.{match_list}
use Rattle.regress_meaning.specs.Offsets.{of_utf8, told}
use Rattle.regress_front_bytes.specs.declared.bitmaps.ByteBitmap.{ByteBitmap}
use Rattle.regress_front_bytes.specs.Bitmaps.{byte_bitmap_contains}
use Rattle.regress_engine_scanning.specs.Landmarks.{run_then, stands}
use Rattle.regress_engine_scanning.specs.NibbleSets.{nibble_set_contains}
use Rattle.regress_engine_scanning.specs.declared.landmark.Landmark.{Landmark}
use Rattle.regress_engine_scanning.specs.declared.landmark.Landmark.TheVariants.{Ahead, BehindRun}
use Rattle.regress_engine_scanning.proofs.ByteLemmas.{slice_get-behind, drop-behind}
use Rattle.regress_engine_scanning.proofs.LandmarkLemmas.{both-parts, begins-parts}
use Rattle.regress_engine_prefix.specs.Starts.{BeginsAs}
use Rattle.regress_engine_prefix.specs.declared.start.StartPredicate.{StartPredicate}
use Rattle.regress_engine_prefix.specs.declared.start.StartPredicate.TheVariants.{Arbitrary, ByteSet1, ByteSet2, ByteSet3, ByteSeq, ByteBracket, ByteNear, StartAnchored}
use Rattle.regress_engine_prefix.specs.declared.start.StartPredicate.TheVariants as variant
use Rattle.regress_engine_search.specs.Prefiltering.{IsNextHit}
use Rattle.regress_engine_search.specs.declared.prefilter.Prefilter.{Prefilter}
use Rattle.regress_programs.proofs.ListedLemmas.{pattern-in_text}
use Rattle.regress.specs.declared.api.Regex.{Regex}
use Rattle.regress.proofs.NeededLemmas.{no-match}
use Rattle.esgrep_rows.specs.Lines.{EndsBefore}
use Rattle.esgrep_rows.specs.Found.{Found, found_at}
use Rattle.esgrep_patterns.specs.Seeking.{Sought, Seeks, SeekAll, found_in, found_of_all}
use Rattle.esgrep_patterns.specs.Candidates.{looks_ahead, start_of, IsOfOne}

-- a byte that is there lies inside
inside : (test : ℕ → Bool) (bytes : List ℕ) (k : ℕ) → is_some_and (slice_get bytes k) test ≡ true → k < length bytes
inside test [] zero h = absurd (cc h)
inside test [] (suc k) h = absurd (cc h)
inside test (b ∷ bytes) zero h = omega arith
inside test (b ∷ bytes) (suc k) h = omega (arith, inside test bytes k h)

-- and stands there too where more follows
stays : (test : ℕ → Bool) (bytes rest : List ℕ) (k : ℕ) → is_some_and (slice_get bytes k) test ≡ true → is_some_and (slice_get (bytes ++ rest) k) test ≡ true
stays test [] rest zero h = absurd (cc h)
stays test [] rest (suc k) h = absurd (cc h)
stays test (b ∷ bytes) rest zero h = h
stays test (b ∷ bytes) rest (suc k) h = stays test bytes rest k h

-- a run up to a byte is one where more follows
run-stays : (run : ℕ → Bool) (byte : ℕ) (bytes rest : List ℕ) → run_then run byte bytes ≡ true → run_then run byte (bytes ++ rest) ≡ true
run-stays run byte [] rest h = absurd (cc h)
run-stays run byte (b ∷ bytes) rest h =
    let parts = both-parts (not (nat_eq byte b) && run b) (is_some_and (slice_get bytes 0) (nat_eq byte) || run_then run byte bytes) h in
    ap₂ ◌&&◌ parts.0 (by_next (is_some_and (slice_get bytes 0) (nat_eq byte)) refl parts.1 (run-stays run byte bytes rest))
  where
    or-true : (a b : Bool) → b ≡ true → (a || b) ≡ true
    or-true true b e = refl
    or-true false b e = e

    by_next : (next : Bool) → is_some_and (slice_get bytes 0) (nat_eq byte) ≡ next → (next || run_then run byte bytes) ≡ true
        → (run_then run byte bytes ≡ true → run_then run byte (bytes ++ rest) ≡ true)
        → (is_some_and (slice_get (bytes ++ rest) 0) (nat_eq byte) || run_then run byte (bytes ++ rest)) ≡ true
    by_next true is more later = ap (λ (b : Bool). b || run_then run byte (bytes ++ rest)) (stays (nat_eq byte) bytes rest 0 is)
    by_next false is more later = or-true (is_some_and (slice_get (bytes ++ rest) 0) (nat_eq byte)) (run_then run byte (bytes ++ rest)) (later more)

-- What a part of a text begins with, the text goes on with at the same place.
module _ (text front part rest : List ℕ) (cut : text ≡ front ++ part ++ rest) where
  abbrev at : ℕ → ℕ
  at k = length front + k

  behind : drop (length front) text ≡ part ++ rest
  behind = ap (drop (length front)) (cut ∙ append_assoc front part rest) ∙ drop-append_seam front (part ++ rest)

  goes-on : (test : ℕ → Bool) (k : ℕ) → is_some_and (slice_get part k) test ≡ true → is_some_and (slice_get text (at k)) test ≡ true
  goes-on test k h =
      let same : slice_get text (at k) ≡ slice_get (part ++ rest) k = sym (slice_get-behind text (length front) k) ∙ ap (λ bs. slice_get bs k) behind in
      ap (λ (o : Option ℕ). is_some_and o test) same ∙ stays test part rest k h

  further : (k : ℕ) → k ≤ length part → drop (at k) text ≡ drop k part ++ rest
  further k within = sym (drop-behind text (length front) k) ∙ ap (drop k) behind ∙ drop-append-le k part rest within

  stands-on : (l : Landmark) (k : ℕ) → k ≤ length part → stands l part k ≡ true → stands l text (at k) ≡ true
  stands-on (Ahead distance byte) k within is =
      let same : length front + (k + distance) ≡ length front + k + distance = omega arith in
      ap (λ i. is_some_and (slice_get text i) (nat_eq byte)) (sym same) ∙ goes-on (nat_eq byte) (k + distance) is
  stands-on (BehindRun run byte) k within is =
      ap (run_then (byte_bitmap_contains run) byte) (further k within) ∙ run-stays (byte_bitmap_contains run) byte (drop k part) rest is

  -- it begins so at its end only where it begins so everywhere
  abbrev GoesOn : StartPredicate → ℕ → Type 0
  GoesOn start k = BeginsAs start text 0 ⊎ ((k < length part) × BeginsAs start text (at k))

  by_byte : (test : ℕ → Bool) (k : ℕ) → is_some_and (slice_get part k) test ≡ true → (k < length part) × (is_some_and (slice_get text (at k)) test ≡ true)
  by_byte test k h = (inside test part k h, goes-on test k h)

  sequence-on : (bytes : List ℕ) (k : ℕ) → 0 < length bytes → take (length bytes) (drop k part) ≡ bytes → (k < length part) × (take (length bytes) (drop (at k) text) ≡ bytes)
  sequence-on bytes k some is =
      let size : length (take (length bytes) (drop k part)) ≡ length bytes = ap length is in
      let fits : length bytes ≤ length (drop k part) = omega (arith, size, length-take (length bytes) (drop k part)) in
      let within : k < length part = omega (arith, fits, some, length-drop k part) in
      (within, ap (take (length bytes)) (further k (omega (arith, within))) ∙ take-append-le (length bytes) (drop k part) rest fits ∙ is)

  pub begins-on : (start : StartPredicate) → looks_ahead start ≡ true → (k : ℕ) → BeginsAs start part k → GoesOn start k
  begins-on Arbitrary ahead k h = absurd (cc ahead)
  begins-on (ByteSet1 set) ahead k h = inr (by_byte (holds set) k h)
  begins-on (ByteSet2 set) ahead k h = inr (by_byte (holds set) k h)
  begins-on (ByteSet3 set) ahead k h = inr (by_byte (holds set) k h)
  begins-on (ByteSeq front) ahead k h = by_list front.items refl
    where
      by_list : (bytes : List ℕ) → front.items ≡ bytes → GoesOn (ByteSeq front) k
      by_list [] none = inl (ap (λ bs. take (length bs) text) none ∙ sym none)
      by_list (b ∷ bytes) e = inr (sequence-on front.items k (omega (arith, ap length e)) h)
  begins-on (ByteBracket set) ahead k h = inr (by_byte (byte_bitmap_contains set) k h)
  begins-on (ByteNear set landmark) ahead k h =
      let parts = begins-parts set landmark part k h in
      let first = by_byte (byte_bitmap_contains set) k parts.0 in
      inr (first.0, ap₂ ◌&&◌ first.1 (stands-on landmark k (omega (arith, first.0)) parts.1))
  begins-on (variant.BytePair pair) ahead k h =
      let parts = both-parts (is_some_and (slice_get part k) (nibble_set_contains pair.first)) (is_some_and (slice_get part (k + 1)) (nibble_set_contains pair.second)) h in
      let first = by_byte (nibble_set_contains pair.first) k parts.0 in
      let same : length front + (k + 1) ≡ length front + k + 1 = omega arith in
      let second = ap (λ i. is_some_and (slice_get text i) (nibble_set_contains pair.second)) (sym same) ∙ goes-on (nibble_set_contains pair.second) (k + 1) parts.1 in
      inr (first.0, ap₂ ◌&&◌ first.1 second)
  begins-on (variant.WordStart word) ahead k h = absurd (cc ahead)
  begins-on StartAnchored ahead k h = absurd (cc ahead)

-- where a text goes on first lies in it
pub hit-inside : (start : StartPredicate) → looks_ahead start ≡ true → (text : List ℕ) (found : Option ℕ) → IsNextHit start text 0 found → IfSome found (λ k. k ≤ length text)
hit-inside start ahead text None hit = tt
hit-inside start ahead text (Some k) hit = ⊎_elim
    (λ first. ⊎_elim (λ later. absurd (hit.2 0 (omega arith) later first)) (λ none. omega (arith, none)) (cases_lt 0 k))
    (λ is. omega (arith, is.0))
    (begins-on text [] text [] (sym (append-nil text)) start ahead k hit.1)

-- a part that ends before it nowhere begins so
never-before : (start : StartPredicate) → looks_ahead start ≡ true → (text : List ℕ) (found : Option ℕ) → IsNextHit start text 0 found → (part : List ℕ) → EndsBefore text found part
    → (k : ℕ) → BeginsAs start part k → ⊥
never-before start ahead text None hit part (utf8, front, rest, cut, room) k begins = ⊎_elim
    (λ first. hit 0 (omega arith) first)
    (λ is. hit (length front + k) (omega arith) is.1)
    (begins-on text front part rest cut start ahead k begins)
never-before start ahead text (Some at) hit part (utf8, front, rest, cut, room) k begins = ⊎_elim
    (λ first. hit.2 0 (omega arith) room.1 first)
    (λ is. hit.2 (length front + k) (omega arith) (omega (arith, is.0, room.0)) is.1)
    (begins-on text front part rest cut start ahead k begins)

-- so nothing is found in it
none-before : (regex : Regex) (s : Sought) → Seeks regex s → (start : StartPredicate) → start ≡ start_of regex → looks_ahead start ≡ true → (text : List ℕ) (found : Option ℕ)
    → IsNextHit start text 0 found → (part : List ℕ) → EndsBefore text found part → (template : Option (List ℕ)) (all : List Found)
    → all ≡ found_in s.table s.options s.pattern template s.names part → all ≡ []
none-before regex s seeks start same ahead text found hit part before template all is =
    let program = regex.compiled.byte_program in
    let never : (k : ℕ) → BeginsAs program.start_pred part k → ⊥ = λ k begins. never-before start ahead text found hit part before k (subst (λ p. BeginsAs p part k) (sym same) begins) in
    let none : match_list s.table s.options s.pattern (chars part) 0 ≡ [] =
    pattern-in_text program s.table s.options s.pattern seeks.0 part before.0 0
    ∙ no-match program regex.compiled.of_bytes part before.0 never (length (names_of s.pattern)) seeks.0.node (seeks.0.well_formed, seeks.0.layout) 0 in
    is ∙ ap (λ ms. map (found_at template s.names part) (map (told (of_utf8 part)) ms)) none

-- and in a part in front of a candidate nothing is found of the only pattern
pub found-before : (regexes : List Regex) (ss : List Sought) (prefilter : Prefilter) → IsOfOne regexes prefilter → SeekAll regexes ss → (text : List ℕ) (found : Option ℕ)
    → IsNextHit prefilter.start.now text 0 found → (part : List ℕ) → EndsBefore text found part → (template : Option (List ℕ)) (all : List Found)
    → all ≡ found_of_all ss template part → all ≡ []
found-before [] ss prefilter one seek text found hit part before template all is = absurd (omega (arith, one.0))
found-before (r ∷ q ∷ regexes) ss prefilter one seek text found hit part before template all is = absurd (omega (arith, one.0))
found-before (r ∷ []) [] prefilter one seek text found hit part before template all is = absurd seek
found-before (r ∷ []) (s ∷ t ∷ ss) prefilter one seek text found hit part before template all is = absurd seek.1
found-before (r ∷ []) (s ∷ []) prefilter one seek text found hit part before template all is =
    none-before r s seek.0 prefilter.start.now (All-head (λ regex. prefilter.start.now ≡ start_of regex) r [] one.1) one.2 text found hit part before template all is
