-- Where 16-bit units begin as a start predicate says, each byte of which is below 0x80.
use Rattle.std.proofs.Common.{◌≡◌, ℕ, zero, suc, ◌+◌, ◌<◌, Bool, true, false, not, ◌&&◌, ◌||◌, List, [], ◌∷◌, ◌++◌, length, take, drop, slice_get, nat_eq, Option, Some, None, All, encode_utf8_all, refl, sym, ap, ◌∙◌, subst, arith, drop-cons}
use Rattle.std.specs.Str.{IsCharBoundary}
use Rattle.std.proofs.lemmas.Bool.{eqb-true}
use Rattle.std.proofs.lemmas.Option.{slice_get_within, get_or_from_slice_get}
use Rattle.std.proofs.lemmas.List.Elements.{All-nil, All-cons, All-head, All-tail, All-drop}
use Rattle.std.proofs.lemmas.Str.{encode_ascii, IsUtf8-from_ascii}
use Rattle.regress_meaning.specs.TableParts.{is_code_point}
use Rattle.regress_meaning.specs.Text.{holds}
use Rattle.regress_meaning.specs.Meaning.{is_some_and}
use Rattle.regress_front_bytes.specs.Bitmaps.{byte_bitmap_contains}
use Rattle.regress_engine_scanning.specs.Landmarks.{IsLow, run_then, stands}
use Rattle.regress_engine_scanning.specs.declared.landmark.Landmark.{Landmark}
use Rattle.regress_engine_scanning.specs.declared.landmark.Landmark.TheVariants.{Ahead, BehindRun}
use Rattle.regress_engine_scanning.specs.BytePairs.{IsLowPair, begins_pair}
use Rattle.regress_engine_scanning.specs.NibbleSets.{nibble_set_contains}
use Rattle.regress_engine_scanning.specs.WordStarts.{IsLowWord, begins_word, passes_before}
use Rattle.regress_engine_scanning.specs.declared.byte_pair.BytePair.{BytePair}
use Rattle.regress_engine_scanning.specs.declared.word_start.WordStart.{WordStart}
use Rattle.regress_engine_scanning.proofs.PairMarks.{pair-both, pair-parts}
use Rattle.regress_engine_scanning.proofs.WordMarks.{word-parts, word-all}
use Rattle.regress_engine_scanning.proofs.LandmarkLemmas.{begins-parts, begins-both, both-parts}
use Rattle.regress_engine_prefix.specs.Reaches.{AreLowTo}
use Rattle.regress_engine_scanning.specs.Units.{AreAscii}
use Rattle.regress_engine_prefix.specs.Starts.{AreNear, IsApart, BeginsAs, HitsBoundaries, tells_bytes, IsPlain}
use Rattle.regress_engine_prefix.specs.declared.start.StartPredicate.{StartPredicate}
use Rattle.regress_engine_prefix.specs.declared.start.StartPredicate.TheVariants.{Arbitrary, ByteSet1, ByteSet2, ByteSet3, ByteSeq, ByteBracket, ByteNear, StartAnchored}
use Rattle.regress_engine_prefix.specs.declared.start.StartPredicate.TheVariants as variant
use Rattle.regress_engine_scanning.proofs.AsciiLemmas.{first-held, rest-held}
use Rattle.regress_engine_prefix.proofs.ReachLemmas.{in-right}
use Rattle.regress_engine_scanning.proofs.ByteLemmas.{slice_get-behind, drop-behind}
use Rattle.regress_engine_prefix.proofs.StartLemmas.{front-first}
use Rattle.regress_engine_prefix.proofs.UnitLemmas.{low-first}

-- ---- units that hold each character below 0x80 as it is

module _ (points units : List ℕ) (at : ℕ → ℕ) (valid : All is_code_point points)
    (reads : (p c : ℕ) → slice_get points p ≡ Some c → c < 0x80 → (slice_get units (at p) ≡ Some c) × (at (suc p) ≡ suc (at p))) where
  here : (p : ℕ) (c : ℕ) (cs : List ℕ) → drop p points ≡ c ∷ cs → slice_get points p ≡ Some c
  here p c cs e =
      let same : p + 0 ≡ p = omega arith in
      ap (slice_get points) (sym same) ∙ sym (slice_get-behind points p 0) ∙ ap (λ (xs : List ℕ). slice_get xs 0) e

  -- a test that lets through such bytes alone
  test-units : (test : ℕ → Bool) → AreAscii test → (p : ℕ) → is_some_and (slice_get (encode_utf8_all (drop p points)) 0) test ≡ true
      → is_some_and (slice_get units (at p)) test ≡ true
  test-units test low p e = by_rest (drop p points) refl (All-drop is_code_point p points valid) e
    where
      by_byte : (c : ℕ) (cs : List ℕ) → drop p points ≡ c ∷ cs → is_code_point c → (o : Option ℕ) → slice_get (encode_utf8_all (c ∷ cs)) 0 ≡ o
          → is_some_and o test ≡ true → is_some_and (slice_get units (at p)) test ≡ true
      by_byte c cs rest point None is passes = absurd (cc)
      by_byte c cs rest point (Some b) is passes =
          let small = low b passes in
          let same = (low-first c cs b point is small).0 in
          let unit = (reads p c (here p c cs rest) (omega (arith, same, small))).0 in
          ap (λ (o : Option ℕ). is_some_and o test) (unit ∙ ap Some same) ∙ passes

      by_rest : (cs : List ℕ) → drop p points ≡ cs → All is_code_point cs → is_some_and (slice_get (encode_utf8_all cs) 0) test ≡ true
          → is_some_and (slice_get units (at p)) test ≡ true
      by_rest [] rest all passes = absurd (cc)
      by_rest (c ∷ cs) rest all passes = by_byte c cs rest (All-head is_code_point c cs all) (slice_get (encode_utf8_all (c ∷ cs)) 0) refl passes

  -- such bytes one behind another
  front-units : (front : List ℕ) → AreAscii (holds front) → (p : ℕ) → take (length front) (encode_utf8_all (drop p points)) ≡ front
      → take (length front) (drop (at p) units) ≡ front
  front-units [] low p e = refl
  front-units (f ∷ front) low p e = by_rest (front-units front (λ b held. low b (rest-held f front b held))) (drop p points) refl (All-drop is_code_point p points valid) e
    where
      by_rest : ((q : ℕ) → take (length front) (encode_utf8_all (drop q points)) ≡ front → take (length front) (drop (at q) units) ≡ front)
          → (cs : List ℕ) → drop p points ≡ cs → All is_code_point cs → take (length (f ∷ front)) (encode_utf8_all cs) ≡ f ∷ front
          → take (length (f ∷ front)) (drop (at p) units) ≡ f ∷ front
      by_rest on [] rest all is = absurd (cc)
      by_rest on (c ∷ cs) rest all is =
          let small = low f (first-held f front) in
          let first : slice_get (encode_utf8_all (c ∷ cs)) 0 ≡ Some f = front-first (f ∷ front) (encode_utf8_all (c ∷ cs)) (omega arith) is in
          let (same, whole) = low-first c cs f (All-head is_code_point c cs all) first small in
          let unit = reads p c (here p c cs rest) (omega (arith, same, small)) in
          let room = slice_get_within units (at p) c unit.0 in
          let value = get_or_from_slice_get units (at p) c 0 unit.0 in
          let cut : drop (at p) units ≡ c ∷ drop (suc (at p)) units = drop-cons units (at p) 0 room ∙ ap (λ x. x ∷ drop (suc (at p)) units) value in
          let next : p + 1 ≡ suc p = omega arith in
          let behind : drop (suc p) points ≡ cs = ap (λ n. drop n points) (sym next) ∙ sym (drop-behind points p 1) ∙ ap (drop 1) rest in
          let more : take (length front) (encode_utf8_all cs) ≡ front = ap (drop 1) (sym (ap (take (length (f ∷ front))) whole) ∙ is) in
          let rests : take (length front) (drop (at (suc p)) units) ≡ front = on (suc p) (ap (λ (xs : List ℕ). take (length front) (encode_utf8_all xs)) behind ∙ more) in
          let ends : take (length front) (drop (suc (at p)) units) ≡ front = ap (λ n. take (length front) (drop n units)) (sym unit.1) ∙ rests in
          ap (take (length (f ∷ front))) cut ∙ ap (λ (xs : List ℕ). c ∷ xs) ends ∙ ap (λ x. x ∷ front) same

  -- such a byte behind so many characters below 0x80 stands behind so many units
  far-units : (test : ℕ → Bool) → AreAscii test → (distance p : ℕ) → All (λ c. c < 0x80) (take distance (drop p points))
      → is_some_and (slice_get (encode_utf8_all (drop p points)) distance) test ≡ true → is_some_and (slice_get units (at p + distance)) test ≡ true
  far-units test small zero p low e =
      let none : at p + 0 ≡ at p = omega arith in
      ap (λ o. is_some_and (slice_get units o) test) none ∙ test-units test small p e
  far-units test small (suc distance) p low e = by_rest (far-units test small distance (suc p)) (drop p points) refl low e
    where
      by_rest : (All (λ c. c < 0x80) (take distance (drop (suc p) points)) → is_some_and (slice_get (encode_utf8_all (drop (suc p) points)) distance) test ≡ true
          → is_some_and (slice_get units (at (suc p) + distance)) test ≡ true)
          → (cs : List ℕ) → drop p points ≡ cs → All (λ c. c < 0x80) (take (suc distance) cs) → is_some_and (slice_get (encode_utf8_all cs) (suc distance)) test ≡ true
          → is_some_and (slice_get units (at p + suc distance)) test ≡ true
      by_rest on [] rest all is = absurd (cc)
      by_rest on (c ∷ cs) rest all is =
          let first : c < 0x80 = All-head (λ d. d < 0x80) c (take distance cs) all in
          let whole : encode_utf8_all (c ∷ cs) ≡ c ∷ encode_utf8_all cs = ap (λ (xs : List ℕ). xs ++ encode_utf8_all cs) (encode_ascii c first) in
          let next : p + 1 ≡ suc p = omega arith in
          let behind : drop (suc p) points ≡ cs = ap (λ n. drop n points) (sym next) ∙ sym (drop-behind points p 1) ∙ ap (drop 1) rest in
          let unit = reads p c (here p c cs rest) first in
          let more = on (subst (λ (xs : List ℕ). All (λ d. d < 0x80) (take distance xs)) (sym behind) (All-tail (λ d. d < 0x80) c (take distance cs) all))
          (ap (λ (xs : List ℕ). is_some_and (slice_get (encode_utf8_all xs) distance) test) behind
          ∙ sym (ap (λ (xs : List ℕ). is_some_and (slice_get xs (suc distance)) test) whole) ∙ is) in
          let same : at p + suc distance ≡ at (suc p) + distance = let e = unit.1 in omega (arith, e) in
          ap (λ o. is_some_and (slice_get units o) test) same ∙ more

  -- where such a byte is first, the first character is below 0x80
  low-front : (test : ℕ → Bool) → AreAscii test → (p : ℕ) → is_some_and (slice_get (encode_utf8_all (drop p points)) 0) test ≡ true
      → All (λ c. c < 0x80) (take 1 (drop p points))
  low-front test low p e = by_rest (drop p points) (All-drop is_code_point p points valid) e
    where
      by_byte : (c : ℕ) (cs : List ℕ) → is_code_point c → (o : Option ℕ) → slice_get (encode_utf8_all (c ∷ cs)) 0 ≡ o → is_some_and o test ≡ true
          → All (λ c. c < 0x80) (take 1 (c ∷ cs))
      by_byte c cs point None is passes = absurd (cc)
      by_byte c cs point (Some b) is passes =
          let small = low b passes in
          let same = (low-first c cs b point is small).0 in
          All-cons (λ d. d < 0x80) c [] (omega (arith, same, small)) (All-nil (λ d. d < 0x80))

      by_rest : (cs : List ℕ) → All is_code_point cs → is_some_and (slice_get (encode_utf8_all cs) 0) test ≡ true → All (λ c. c < 0x80) (take 1 cs)
      by_rest [] all passes = absurd (cc)
      by_rest (c ∷ cs) all passes = by_byte c cs (All-head is_code_point c cs all) (slice_get (encode_utf8_all (c ∷ cs)) 0) refl passes

  -- bytes of two sets one behind the other
  pair-units : (pair : BytePair) → IsLowPair pair → (p : ℕ) → begins_pair pair (encode_utf8_all (drop p points)) 0 ≡ true → begins_pair pair units (at p) ≡ true
  pair-units pair low p e =
      let (first, second) = pair-parts pair (encode_utf8_all (drop p points)) 0 e in
      pair-both pair units (at p) (test-units (nibble_set_contains pair.first) low.0 p first)
      (far-units (nibble_set_contains pair.second) low.1 1 p (low-front (nibble_set_contains pair.first) low.0 p first) second)

  -- bytes below 0x80 of a run, and behind them one that is none of them
  run-units : (run : ℕ → Bool) → AreAscii run → (byte : ℕ) → byte < 0x80 → (cs : List ℕ) (p : ℕ) → drop p points ≡ cs → run_then run byte (encode_utf8_all cs) ≡ true
      → run_then run byte (drop (at p) units) ≡ true
  run-units run low byte small [] p rest e = absurd (cc)
  run-units run low byte small (c ∷ cs) p rest e = by_first (run-units run low byte small cs (suc p)) (encode_utf8_all (c ∷ cs)) refl e
    where
      point : is_code_point c
      point = All-head is_code_point c cs (subst (All is_code_point) rest (All-drop is_code_point p points valid))

      by_parts : (b : ℕ) (bs : List ℕ) → run_then run byte (b ∷ bs) ≡ true → run b ≡ true
      by_parts b bs is = (both-parts (not (nat_eq byte b)) (run b) (both-parts (not (nat_eq byte b) && run b) (is_some_and (slice_get bs 0) (nat_eq byte) || run_then run byte bs) is).0).1

      by_first : (drop (suc p) points ≡ cs → run_then run byte (encode_utf8_all cs) ≡ true → run_then run byte (drop (at (suc p)) units) ≡ true)
          → (bytes : List ℕ) → encode_utf8_all (c ∷ cs) ≡ bytes → run_then run byte bytes ≡ true → run_then run byte (drop (at p) units) ≡ true
      by_first on [] is f = absurd (cc)
      by_first on (b ∷ bs) is f =
          let begins : slice_get (encode_utf8_all (c ∷ cs)) 0 ≡ Some b = ap (λ (xs : List ℕ). slice_get xs 0) is in
          let below : b < 0x80 = low b (by_parts b bs f) in
          let (same, whole) = low-first c cs b point begins below in
          let unit = reads p c (here p c cs rest) (omega (arith, same, below)) in
          let room = slice_get_within units (at p) c unit.0 in
          let value = get_or_from_slice_get units (at p) c 0 unit.0 in
          let cut : drop (at p) units ≡ c ∷ drop (at (suc p)) units =
          drop-cons units (at p) 0 room ∙ ap (λ x. x ∷ drop (suc (at p)) units) value ∙ ap (λ n. c ∷ drop n units) (sym unit.1) in
          let next : p + 1 ≡ suc p = omega arith in
          let behind : drop (suc p) points ≡ cs = ap (λ n. drop n points) (sym next) ∙ sym (drop-behind points p 1) ∙ ap (drop 1) rest in
          ap (run_then run byte) cut ∙ by_next behind (ap (run_then run byte) (sym whole) ∙ ap (run_then run byte) is ∙ f)
        where
          by_next : drop (suc p) points ≡ cs → run_then run byte (c ∷ encode_utf8_all cs) ≡ true → run_then run byte (c ∷ drop (at (suc p)) units) ≡ true
          by_next behind g =
              let parts = both-parts (not (nat_eq byte c) && run c) (is_some_and (slice_get (encode_utf8_all cs) 0) (nat_eq byte) || run_then run byte (encode_utf8_all cs)) g in
              rw (parts.0, by_either (is_some_and (slice_get (encode_utf8_all cs) 0) (nat_eq byte)) refl parts.1) refl
            where
              ends : is_some_and (slice_get (encode_utf8_all cs) 0) (nat_eq byte) ≡ true → is_some_and (slice_get (drop (at (suc p)) units) 0) (nat_eq byte) ≡ true
              ends is =
                  let none : at (suc p) + 0 ≡ at (suc p) = omega arith in
                  ap (λ o. is_some_and o (nat_eq byte)) (slice_get-behind units (at (suc p)) 0 ∙ ap (slice_get units) none)
                  ∙ test-units (nat_eq byte) (λ b is. let same = eqb-true byte b is in omega (arith, small, same)) (suc p)
                  (ap (λ (xs : List ℕ). is_some_and (slice_get (encode_utf8_all xs) 0) (nat_eq byte)) behind ∙ is)

              by_either : (t : Bool) → is_some_and (slice_get (encode_utf8_all cs) 0) (nat_eq byte) ≡ t → (t || run_then run byte (encode_utf8_all cs)) ≡ true
                  → (is_some_and (slice_get (drop (at (suc p)) units) 0) (nat_eq byte) || run_then run byte (drop (at (suc p)) units)) ≡ true
              by_either true is more = rw (ends is) refl
              by_either false is more = in-right (is_some_and (slice_get (drop (at (suc p)) units) 0) (nat_eq byte)) (run_then run byte (drop (at (suc p)) units)) _ refl (on behind more)

  -- the byte of a landmark
  near-units : (landmark : Landmark) → IsLow landmark → (p : ℕ) → AreLowTo landmark (drop p points) → stands landmark (encode_utf8_all (drop p points)) 0 ≡ true
      → stands landmark units (at p) ≡ true
  near-units (Ahead distance byte) small p low e =
      let none : 0 + distance ≡ distance = omega arith in
      far-units (nat_eq byte) (λ b is. let same = eqb-true byte b is in omega (arith, small, same)) distance p low (ap (λ n. is_some_and (slice_get (encode_utf8_all (drop p points)) n) (nat_eq byte)) (sym none) ∙ e)
  near-units (BehindRun run byte) small p low e = run-units (byte_bitmap_contains run) small.0 byte small.1 (drop p points) p refl e

  -- a byte of a set at which a word begins, where a unit below 0x80 in front is the character in front
  word-units : (word : WordStart) → IsLowWord word → (p : ℕ) → ((test : ℕ → Bool) → AreAscii test → passes_before test units (at p) ≡ true → passes_before test points p ≡ true)
      → ¬ (passes_before (nibble_set_contains word.word) points p ≡ true) → begins_word word (encode_utf8_all (drop p points)) 0 ≡ true → begins_word word units (at p) ≡ true
  word-units word low p before apart e =
      word-all word units (at p) (test-units (nibble_set_contains word.first) low.1 p (word-parts word (encode_utf8_all (drop p points)) 0 e).0)
      (λ h. apart (before (nibble_set_contains word.word) low.0 h))

  -- where characters begin so, the units do
  pub units-begin : (start : StartPredicate) → IsPlain start → tells_bytes start ≡ true → (p : ℕ)
      → ((test : ℕ → Bool) → AreAscii test → passes_before test units (at p) ≡ true → passes_before test points p ≡ true)
      → AreNear start (drop p points) → IsApart start points p → BeginsAs start (encode_utf8_all (drop p points)) 0 → BeginsAs start units (at p)
  units-begin (ByteSet1 set) plain told p before near apart e = test-units (holds set) plain p e
  units-begin (ByteSet2 set) plain told p before near apart e = test-units (holds set) plain p e
  units-begin (ByteSet3 set) plain told p before near apart e = test-units (holds set) plain p e
  units-begin (ByteSeq front) plain told p before near apart e = front-units front.items plain p e
  units-begin (ByteBracket set) plain told p before near apart e = test-units _ plain p e
  units-begin (ByteNear set landmark) plain told p before near apart e =
      let (first, by) = begins-parts set landmark (encode_utf8_all (drop p points)) 0 e in
      begins-both set landmark units (at p) (test-units _ plain.0 p first) (near-units landmark plain.1 p near by)
  units-begin (variant.BytePair pair) plain told p before near apart e = pair-units pair plain p e
  units-begin (variant.WordStart word) plain told p before near apart e = word-units word plain p before apart e
  units-begin Arbitrary plain told p before near apart e = absurd (cc)
  units-begin StartAnchored plain told p before near apart e = absurd (cc)

-- ---- where units begin so

-- a unit below 0x80 stands there
abbrev pub HasLow : List ℕ → ℕ → Type 0
HasLow units o = (b : ℕ) × (slice_get units o ≡ Some b) × (b < 0x80)

test-low : (test : ℕ → Bool) → AreAscii test → (units : List ℕ) (o : ℕ) → is_some_and (slice_get units o) test ≡ true → HasLow units o
test-low test low units o e = by_unit (slice_get units o) refl e
  where
    by_unit : (x : Option ℕ) → slice_get units o ≡ x → is_some_and x test ≡ true → HasLow units o
    by_unit None is passes = absurd (cc)
    by_unit (Some b) is passes = (b, is, low b passes)

front-low : (front : List ℕ) → AreAscii (holds front) → 0 < length front → (units : List ℕ) (o : ℕ) → take (length front) (drop o units) ≡ front → HasLow units o
front-low [] low some units o e = absurd (omega (arith, some))
front-low (f ∷ front) low some units o e =
    let same : o + 0 ≡ o = omega arith in
    (f, ap (slice_get units) (sym same) ∙ sym (slice_get-behind units o 0) ∙ front-first (f ∷ front) (drop o units) some e, low f (first-held f front))

-- bytes that stand at boundaries alone are some
some-front : (front : List ℕ) → ((at : ℕ) → take (length front) (drop at []) ≡ front → IsCharBoundary [] at) → 0 < length front
some-front [] cuts = absurd (let inside = (cuts 1 refl).0 in omega (arith, inside))
some-front (f ∷ front) cuts = omega arith

pub low-hit : (start : StartPredicate) → IsPlain start → HitsBoundaries start → tells_bytes start ≡ true → (units : List ℕ) (o : ℕ) → BeginsAs start units o → HasLow units o
low-hit (ByteSet1 set) plain cuts told units o e = test-low (holds set) plain units o e
low-hit (ByteSet2 set) plain cuts told units o e = test-low (holds set) plain units o e
low-hit (ByteSet3 set) plain cuts told units o e = test-low (holds set) plain units o e
low-hit (ByteSeq front) plain cuts told units o e =
    front-low front.items plain (some-front front.items (λ at. cuts refl [] (IsUtf8-from_ascii [] (λ i. omega arith)) at)) units o e
low-hit (ByteBracket set) plain cuts told units o e = test-low _ plain units o e
low-hit (ByteNear set landmark) plain cuts told units o e = test-low _ plain.0 units o (begins-parts set landmark units o e).0
low-hit (variant.BytePair pair) plain cuts told units o e = test-low _ plain.0 units o (pair-parts pair units o e).0
low-hit (variant.WordStart word) plain cuts told units o e = test-low _ plain.1 units o (word-parts word units o e).0
low-hit Arbitrary plain cuts told units o e = absurd (cc)
low-hit StartAnchored plain cuts told units o e = absurd (cc)
