-- What matches of trees take, and which byte stands by them.
use Rattle.std.proofs.Common.{◌≡◌, ℕ, zero, suc, ◌+◌, ◌<◌, ◌≤◌, Bool, true, false, not, ◌&&◌, ◌||◌, List, [], ◌∷◌, ◌++◌, length, take, drop, get_or, filter, map, slice_get, slice_range, nat_le, nat_eq, Option, Some, None, All, cond, Vec, Global, encode_utf8_all, if◌then◌else◌, refl, sym, ap, subst, ◌∙◌, arith}
use Rattle.std.specs.Prelude.{encode_utf8, ◌/◌, ◌%◌, nat_lt}
use Rattle.std.specs.List.{list_all, flat_map}
use Rattle.std.proofs.Math.Utf8.{encode}
use Rattle.std.proofs.lemmas.Bool.{leb-true, ltb-true, lt-ltb, eqb-true, false≢true}
use Rattle.std.proofs.Math.Seq.{drop-append_seam}
use Rattle.std.proofs.lemmas.List.{take-append-drop, take_more, map-append, length-append, append-nil}
use Rattle.std.proofs.lemmas.List.Folds.{list_all-append}
use Rattle.std.proofs.lemmas.List.Elements.{All-nil, All-cons, All-append, All-map, All-head, All-tail, All-take, All-drop}
use Rattle.std.proofs.lemmas.Bool.Decides.{nat_tests}
use Rattle.std.proofs.lemmas.Str.{encodes-append, encode_ascii, length-encode, len_utf8_bounds}
use Rattle.regress_meaning.specs.TableParts.{is_code_point}
use Rattle.regress_meaning.specs.Meaning.{State, Forward, Outcomes, Context, beside, stepped, step, iterations, captured, moved, is_some_and}
use Rattle.regress_meaning.proofs.StepLaws.{All-flat_map}
use Rattle.regress_front_bytes.specs.declared.bitmaps.ByteBitmap.{ByteBitmap}
use Rattle.regress_front_bytes.specs.Bitmaps.{byte_bitmap_contains}
use Rattle.regress_front_nodes.specs.Trees.{Tree, tree, cat_of, no_part, char, byte_set, char_set, bracket, capture, submatch, atomic, single_loop}
use Rattle.regress_front_nodes.specs.declared.node.Node.{Node}
use Rattle.regress_front_nodes.specs.TreeMeaning.{node_outcomes, one}
use Rattle.regress_front_nodes.proofs.SequenceLemmas.{cat_of-append}
use Rattle.regress_front_nodes.proofs.StepLemmas.{flat_map-self}
use Rattle.regress_front_sets.proofs.FirstByteLemmas.{lead}
use Rattle.regress_engine_prefix.proofs.LeadLemmas.{has-lead}
use Rattle.regress_engine_scanning.proofs.LandmarkLemmas.{is-byte, byte-is, both-parts}
use Rattle.regress_engine_prefix.proofs.PrefixLemmas.{Foretells-no_part}
use Rattle.regress_engine_prefix.specs.Prefixes.{Foretells}
use Rattle.regress_engine_prefix.specs.declared.prefix.Prefix.TheVariants.{Still, Bytes, First}
use Rattle.regress_engine_scanning.specs.Landmarks.{run_then}
use Rattle.regress_engine_prefix.specs.Reaches.{AreLowTo, Takes, TakesNothing, CoversOne, StandsAt, HoldsTo, IsBoth, Reaches, TakesOne}
use Rattle.regress_engine_scanning.specs.declared.landmark.Landmark.TheVariants.{Ahead, BehindRun}
use Rattle.regress_engine_prefix.specs.declared.reach.Span.{Span}
use Rattle.regress_engine_prefix.specs.declared.reach.Reach.{Reach}
use Rattle.regress_engine_prefix.specs.declared.reach.Reach.TheVariants.{Unknown, Taken, By}

-- ---- nothing is known, or nothing is taken

pub Reaches-unknown : (t : Tree) → Reaches Unknown t
Reaches-unknown t = record { each = λ context valid s k d h. tt }

pub Reaches-still : (span : Span) (t : Tree) → TakesNothing span → Foretells Still t → Reaches (Taken span) t
Reaches-still span t nothing still = record {
  each = λ context valid s k d h.
      subst (λ (n : ℕ). Takes span (drop s.place context.text) (drop n context.text)) (sym (still.each context valid s k d h)) (nothing (drop s.place context.text));
}

-- ---- one character

pub Reaches-one : (span : Span) (set : ByteBitmap) (t : Tree) → CoversOne (byte_bitmap_contains set) span → TakesOne t → Foretells (First set) t → Reaches (Taken span) t
Reaches-one span set t covers takes first = record {
  each = λ context valid s k d h.
      let found = takes.each context s k d h in
      cover context.text s.place valid found.0 _ found.1 (first.each context valid s k d h);
}
  where
    point : (xs ys : List ℕ) (c : ℕ) → All is_code_point xs → xs ≡ c ∷ ys → is_code_point c
    point xs ys c all e = All-head is_code_point c ys (subst (All is_code_point) e all)

    first-front : (xs ys : List ℕ) (test : ℕ → Bool) → 0 < length xs → is_some_and (slice_get (xs ++ ys) 0) test ≡ true → is_some_and (slice_get xs 0) test ≡ true
    first-front [] ys test some h = absurd (omega arith)
    first-front (x ∷ xs) ys test some h = h

    some-bytes : (c : ℕ) → 0 < length (encode_utf8 c)
    some-bytes c = let e = length-encode c in let b = (len_utf8_bounds c).0 in omega (arith, e, b)

    cover : (text : List ℕ) (place : ℕ) → All is_code_point text → (c : ℕ) (rest : List ℕ) → drop place text ≡ c ∷ rest
        → is_some_and (slice_get (encode_utf8_all (drop place text)) 0) (byte_bitmap_contains set) ≡ true → Takes span (drop place text) rest
    cover text place valid c rest e h =
        subst (λ xs. Takes span xs rest) (sym e)
        (covers c rest (point (drop place text) rest c (All-drop is_code_point place text valid) e)
        (first-front (encode_utf8 c) (encode_utf8_all rest) (byte_bitmap_contains set) (some-bytes c) (subst (λ xs. is_some_and (slice_get (encode_utf8_all xs) 0) (byte_bitmap_contains set) ≡ true) e h)))

-- a step over one character takes one
module _ (w : Context) (s : State) where
  abbrev OneOn : State → Type 0
  OneOn u = (c : ℕ) × (drop s.place w.text ≡ c ∷ drop u.place w.text)

  steps-one : (test : List ℕ → Bool) → All OneOn (step w Forward 1 test s)
  unfolding step beside
  steps-one test = by_room (nat_le (s.place + 1) (length w.text)) refl
    where
      by_test : (b : Bool) (t : State) → OneOn t → All OneOn (if b then t ∷ [] else [])
      by_test true t h = All-cons OneOn t [] h (All-nil OneOn)
      by_test false t h = All-nil OneOn

      uncons : (xs : List ℕ) (n : ℕ) → n < length xs → (c : ℕ) × (drop n xs ≡ c ∷ drop (n + 1) xs)
      uncons [] n below = absurd (omega arith)
      uncons (x ∷ xs) zero below = (x, refl)
      uncons (x ∷ xs) (suc n) below =
          let e : suc (n + 1) ≡ suc n + 1 = omega arith in subst (λ m. (c : ℕ) × (drop n xs ≡ c ∷ drop m (x ∷ xs))) e (uncons xs n (omega arith))

      by_room : (b : Bool) → nat_le (s.place + 1) (length w.text) ≡ b
          → (let found : Option (List ℕ × ℕ) = Some (slice_range w.text s.place (s.place + 1), s.place + 1) in All OneOn (stepped test s (if b then found else None)))
      by_room false e = All-nil OneOn
      by_room true e =
          by_test (test (slice_range w.text s.place (s.place + 1))) (record s { place = s.place + 1 })
          (uncons w.text s.place (omega (arith, leb-true (s.place + 1) (length w.text) e)))

pub TakesOne-char : (c : ℕ) → TakesOne (char c)
unfolding node_outcomes
TakesOne-char c = record { each = λ context s. steps-one context s _ }

pub TakesOne-byte_set : (bs : List ℕ) → TakesOne (byte_set bs)
unfolding node_outcomes
TakesOne-byte_set bs = record { each = λ context s. steps-one context s _ }

pub TakesOne-char_set : (cs : List ℕ) → TakesOne (char_set cs)
unfolding node_outcomes
TakesOne-char_set cs = record { each = λ context s. steps-one context s _ }

pub TakesOne-bracket : (inverted : Bool) (intervals : List (ℕ × ℕ)) → TakesOne (bracket inverted intervals)
unfolding node_outcomes
TakesOne-bracket inverted intervals = record { each = λ context s. steps-one context s _ }

-- ---- bytes that stand there

-- some bytes and the byte behind them: the byte is so many bytes on
pub front-get : (xs ys : List ℕ) (n : ℕ) → slice_get (xs ++ ys) (length xs + n) ≡ slice_get ys n
front-get [] ys n = let e : 0 + n ≡ n = omega arith in ap (slice_get ys) e
front-get (x ∷ xs) ys n = let e : suc (length xs) + n ≡ suc (length xs + n) = omega arith in ap (slice_get (x ∷ (xs ++ ys))) e ∙ front-get xs ys n

pub whole-text : (text : List ℕ) (place : ℕ) → encode_utf8_all text ≡ encode_utf8_all (take place text) ++ encode_utf8_all (drop place text)
whole-text text place = ap encode_utf8_all (sym (take-append-drop place text)) ∙ encodes-append (take place text) (drop place text)

-- the byte so many bytes behind a place
pub ahead-at : (text : List ℕ) (place distance : ℕ)
    → slice_get (encode_utf8_all text) (length (encode_utf8_all (take place text)) + distance) ≡ slice_get (encode_utf8_all (drop place text)) distance
ahead-at text place distance =
    let front = encode_utf8_all (take place text) in
    ap (λ xs. slice_get xs (length front + distance)) (whole-text text place) ∙ front-get front (encode_utf8_all (drop place text)) distance

-- the bytes from a place on
pub rest-at : (text : List ℕ) (place : ℕ) → drop (length (encode_utf8_all (take place text))) (encode_utf8_all text) ≡ encode_utf8_all (drop place text)
rest-at text place =
    let front = encode_utf8_all (take place text) in
    ap (drop (length front)) (whole-text text place) ∙ drop-append_seam front (encode_utf8_all (drop place text))

pub Reaches-bytes : (front : Vec ℕ Global) (byte : ℕ) (t : Tree) → slice_get front.items 0 ≡ Some byte → Foretells (Bytes front) t → Reaches (By (Ahead 0 byte)) t
Reaches-bytes front byte t begins told = record {
  each = λ context valid s k d h. (
    is-byte _ byte (ahead-at context.text s.place 0 ∙ first front.items (encode_utf8_all (drop s.place context.text)) begins (told.each context valid s k d h)),
    All-nil (λ c. c < 0x80),
  );
}
  where
    first : (xs ys : List ℕ) → slice_get xs 0 ≡ Some byte → take (length xs) ys ≡ xs → slice_get ys 0 ≡ Some byte
    first [] ys is e = absurd (cc)
    first (x ∷ xs) [] is e = absurd (cc)
    first (x ∷ xs) (y ∷ ys) is e = let same : y ≡ x = cc in ap Some same ∙ is

-- ---- one behind the other

taken-bytes : (span : Span) (text mid : List ℕ) (taken : Takes span text mid) → encode_utf8_all text ≡ encode_utf8_all taken.front ++ encode_utf8_all mid
taken-bytes span text mid taken = ap encode_utf8_all taken.cut ∙ encodes-append taken.front mid

append-grouped : (xs ys zs : List ℕ) → (xs ++ ys) ++ zs ≡ xs ++ (ys ++ zs)
append-grouped [] ys zs = refl
append-grouped (x ∷ xs) ys zs = ap (λ r. x ∷ r) (append-grouped xs ys zs)

all-wider : (p q : ℕ → Bool) (xs : List ℕ) → ((b : ℕ) → p b ≡ true → q b ≡ true) → list_all p xs ≡ true → list_all q xs ≡ true
all-wider p q [] wider h = refl
all-wider p q (x ∷ xs) wider h = by_first (p x) refl h (all-wider p q xs wider)
  where
    by_first : (b : Bool) → p x ≡ b → (b && list_all p xs) ≡ true → (list_all p xs ≡ true → list_all q xs ≡ true) → list_all q (x ∷ xs) ≡ true
    by_first true is rest more = rw (wider x is) (more rest)
    by_first false is rest more = absurd (cc)

-- what both take
pub Takes-both : (first second both : Span) (text mid rest : List ℕ)
    → ((b : ℕ) → byte_bitmap_contains first.run b ≡ true → byte_bitmap_contains both.run b ≡ true)
    → ((b : ℕ) → byte_bitmap_contains second.run b ≡ true → byte_bitmap_contains both.run b ≡ true)
    → both.least ≤ first.least + second.least → (both.exact ≡ true → (first.exact ≡ true) × (second.exact ≡ true) × (both.least ≡ first.least + second.least))
    → Takes first text mid → Takes second mid rest → Takes both text rest
Takes-both first second both text mid rest one other sum exact a b =
    let size : length (encode_utf8_all (a.front ++ b.front)) ≡ length (encode_utf8_all a.front) + length (encode_utf8_all b.front) =
    ap length (encodes-append a.front b.front) ∙ length-append (encode_utf8_all a.front) (encode_utf8_all b.front) in
    record {
      front = a.front ++ b.front;
      cut = a.cut ∙ ap (λ xs. a.front ++ xs) b.cut ∙ sym (append-grouped a.front b.front rest);
      run = ap (list_all (byte_bitmap_contains both.run)) (encodes-append a.front b.front)
          ∙ list_all-append (byte_bitmap_contains both.run) (encode_utf8_all a.front) (encode_utf8_all b.front)
          ∙ rw (all-wider _ _ (encode_utf8_all a.front) one a.run) (all-wider _ _ (encode_utf8_all b.front) other b.run);
      least = let l = a.least in let m = b.least in omega (arith, size, l, m, sum);
      exact = λ e. let (p, q, all) = exact e in let l = a.exact p in let m = b.exact q in omega (arith, size, l, m, all);
      low = λ e. let (p, q, all) = exact e in All-append (λ c. c < 0x80) a.front b.front (a.low p) (b.low q);
    }

-- a byte behind what is exactly so long
pub Stands-over : (span : Span) (distance far byte : ℕ) (text : List ℕ) (place mid : ℕ) → span.exact ≡ true → far ≡ span.least + distance
    → Takes span (drop place text) (drop mid text) → StandsAt (Ahead distance byte) text mid → StandsAt (Ahead far byte) text place
Stands-over span distance far byte text place mid exact sum taken here =
    let front = encode_utf8_all taken.front in
    let size : far ≡ length front + distance = let e = taken.exact exact in omega (arith, e, sum) in
    let there = byte-is _ byte here in
    is-byte _ byte (ahead-at text place far ∙ ap (λ xs. slice_get xs far) (taken-bytes span (drop place text) (drop mid text) taken) ∙ ap (slice_get (front ++ encode_utf8_all (drop mid text))) size
    ∙ front-get front (encode_utf8_all (drop mid text)) distance ∙ sym (ahead-at text mid distance) ∙ there)

-- characters of ASCII are as many bytes
low-size : (cs : List ℕ) → All (λ c. c < 0x80) cs → length (encode_utf8_all cs) ≡ length cs
low-size [] low = refl
low-size (c ∷ cs) low =
    let one : length (encode_utf8 c) ≡ 1 = ap length (encode_ascii c (All-head (λ d. d < 0x80) c cs low)) in
    let rest = low-size cs (All-tail (λ d. d < 0x80) c cs low) in
    let both = length-append (encode_utf8 c) (encode_utf8_all cs) in
    omega (arith, one, rest, both)

-- what is taken of a text, and what stands in front behind it
take-over : (xs ys : List ℕ) (n : ℕ) → take (length xs + n) (xs ++ ys) ≡ xs ++ take n ys
take-over [] ys n = let e : 0 + n ≡ n = omega arith in ap (λ m. take m ys) e
take-over (x ∷ xs) ys n = let e : suc (length xs) + n ≡ suc (length xs + n) = omega arith in ap (λ m. take m (x ∷ (xs ++ ys))) e ∙ ap (λ r. x ∷ r) (take-over xs ys n)

-- So ASCII alone stands in front of a byte behind what is exactly so long.
pub Low-over : (span : Span) (distance far byte : ℕ) (text : List ℕ) (place mid : ℕ) → span.exact ≡ true → far ≡ span.least + distance
    → Takes span (drop place text) (drop mid text) → AreLowTo (Ahead distance byte) (drop mid text) → AreLowTo (Ahead far byte) (drop place text)
Low-over span distance far byte text place mid exact sum taken behind =
    let low = taken.low exact in
    let size : far ≡ length taken.front + distance = let e = taken.exact exact in let l = low-size taken.front low in omega (arith, e, l, sum) in
    let is : take far (drop place text) ≡ taken.front ++ take distance (drop mid text) =
    ap (take far) taken.cut ∙ ap (λ n. take n (taken.front ++ drop mid text)) size ∙ take-over taken.front (drop mid text) distance in
    subst (All (λ c. c < 0x80)) (sym is) (All-append (λ c. c < 0x80) taken.front (take distance (drop mid text)) low behind)

-- bytes that pass and then a byte that does not
run-found : (run : ℕ → Bool) (byte : ℕ) (xs ys : List ℕ) → run byte ≡ false → 0 < length xs → list_all run xs ≡ true → slice_get ys 0 ≡ Some byte → run_then run byte (xs ++ ys) ≡ true
run-found run byte [] ys out some all next = absurd (omega arith)
run-found run byte (x ∷ xs) ys out some all next = by_first (run x) refl all (λ some rest. run-found run byte xs ys out some rest next)
  where
    differs : (b : Bool) → nat_eq byte x ≡ b → run x ≡ true → not b ≡ true
    differs true e is = let same = eqb-true byte x e in absurd (false≢true (sym out ∙ ap run same ∙ is))
    differs false e is = refl

    either : (a b : Bool) → b ≡ true → (a || b) ≡ true
    either true b e = refl
    either false b e = e

    behind : (zs : List ℕ) → (0 < length zs → run_then run byte (zs ++ ys) ≡ true) → (is_some_and (slice_get (zs ++ ys) 0) (nat_eq byte) || run_then run byte (zs ++ ys)) ≡ true
    behind [] further = rw (is-byte (slice_get ys 0) byte next) refl
    behind (z ∷ zs) further = either _ _ (further (omega arith))

    by_first : (b : Bool) → run x ≡ b → (b && list_all run xs) ≡ true → (0 < length xs → list_all run xs ≡ true → run_then run byte (xs ++ ys) ≡ true)
        → run_then run byte ((x ∷ xs) ++ ys) ≡ true
    by_first true is rest further = rw (differs (nat_eq byte x) refl is, is) (behind xs (λ some. further some rest))
    by_first false is rest further = absurd (cc)

pub Stands-behind : (span : Span) (byte : ℕ) (text : List ℕ) (place mid : ℕ) → 0 < span.least → byte_bitmap_contains span.run byte ≡ false
    → Takes span (drop place text) (drop mid text) → StandsAt (Ahead 0 byte) text mid → StandsAt (BehindRun span.run byte) text place
Stands-behind span byte text place mid some out taken here =
    let there = sym (ahead-at text mid 0) ∙ byte-is _ byte here in
    ap (run_then (byte_bitmap_contains span.run) byte) (rest-at text place ∙ taken-bytes span (drop place text) (drop mid text) taken)
    ∙ run-found (byte_bitmap_contains span.run) byte (encode_utf8_all taken.front) (encode_utf8_all (drop mid text)) out (let l = taken.least in omega (arith, l, some)) taken.run there

-- ---- parts one after another

pub Reaches-first : (r : Reach) (t : Tree) → Reaches r t → Reaches r (cat_of (t ∷ []))
unfolding node_outcomes
Reaches-first r t h = record {
  each = λ context valid s. subst (All (λ (u : State). HoldsTo r context.text s.place u.place)) (sym (flat_map-self (node_outcomes context t Forward s))) (h.each context valid s);
}

-- one part more
pub Reaches-more : (first second both : Reach) (ts : List Tree) (t : Tree) → IsBoth first second both → Reaches first (cat_of ts) → Reaches second t → Reaches both (cat_of (ts ++ t ∷ []))
Reaches-more first second both ts t joins one other = record {
  each = λ context valid s.
      subst (All (λ (v : State). HoldsTo both context.text s.place v.place)) (sym (cat_of-append context ts (t ∷ []) Forward s))
      (All-flat_map (λ (u : State). HoldsTo first context.text s.place u.place) (λ (v : State). HoldsTo both context.text s.place v.place) (node_outcomes context (cat_of (t ∷ [])) Forward)
      (λ u h k d l. joins context.text s.place u.place _ h ((Reaches-first second t other).each context valid u k d l))
      (node_outcomes context (cat_of ts) Forward s) (one.each context valid s));
}

-- it does not matter where the match ends
abbrev pub IsDecided : Reach → Type 0
IsDecided Unknown = Unit {0}
IsDecided (Taken span) = ⊥
IsDecided (By landmark) = Unit {0}

elsewhere : (r : Reach) → IsDecided r → (text : List ℕ) (place e f : ℕ) → HoldsTo r text place e → HoldsTo r text place f
elsewhere Unknown decided text place e f h = tt
elsewhere (Taken span) decided text place e f h = absurd decided
elsewhere (By landmark) decided text place e f h = h

-- and so the other parts do not matter
pub Reaches-decided : (r : Reach) (ts us : List Tree) → IsDecided r → Reaches r (cat_of ts) → Reaches r (cat_of (ts ++ us))
Reaches-decided r ts us decided h = record {
  each = λ context valid s.
      let Q : State → Type 0 = λ u. HoldsTo r context.text s.place u.place in
      subst (All Q) (sym (cat_of-append context ts us Forward s))
      (All-flat_map Q Q (node_outcomes context (cat_of us) Forward) (λ u held k d l. elsewhere r decided context.text s.place _ _ held) (node_outcomes context (cat_of ts) Forward s) (h.each context valid s));
}

pub Reaches-no_part : (span : Span) → TakesNothing span → Reaches (Taken span) no_part
Reaches-no_part span nothing = Reaches-still span no_part nothing Foretells-no_part

-- what is known of the parts up to the next
pub Reaches-part : (first second both : Reach) (ns : List Node) (k : ℕ) (part : Node) → k < length ns → part ≡ get_or ns k part → IsBoth first second both
    → Reaches first (cat_of (map tree (take k ns))) → Reaches second (tree part) → Reaches both (cat_of (map tree (take (k + 1) ns)))
Reaches-part first second both ns k part within is joins one other =
    let more : map tree (take (k + 1) ns) ≡ map tree (take k ns) ++ tree part ∷ [] =
    ap (map tree) (take_more ns k part within ∙ ap (λ n. take k ns ++ n ∷ []) (sym is)) ∙ map-append tree (take k ns) (part ∷ []) in
    subst (λ ts. Reaches both (cat_of ts)) (sym more) (Reaches-more first second both (map tree (take k ns)) (tree part) joins one other)

-- what is decided by some parts holds of all
pub Reaches-rest : (r : Reach) (ns : List Node) (k : ℕ) → IsDecided r → Reaches r (cat_of (map tree (take k ns))) → Reaches r (cat_of (map tree ns))
Reaches-rest r ns k decided h =
    let all : map tree (take k ns) ++ map tree (drop k ns) ≡ map tree ns = sym (map-append tree (take k ns) (drop k ns)) ∙ ap (map tree) (take-append-drop k ns) in
    subst (λ ts. Reaches r (cat_of ts)) all (Reaches-decided r (map tree (take k ns)) (map tree (drop k ns)) decided h)

pub decided-other : (r : Reach) → ((span : Span) → r ≡ Taken span → ⊥) → IsDecided r
decided-other Unknown other = tt
decided-other (Taken span) other = absurd (other span refl)
decided-other (By landmark) other = tt

-- ---- groups, lookarounds and repetitions

pub Reaches-capture : (r : Reach) (k : ℕ) (name : Option (List ℕ)) (a : Tree) → Reaches r a → Reaches r (capture k name a)
unfolding node_outcomes
Reaches-capture r k name a h = record {
  each = λ context valid s. All-map (λ v. HoldsTo r context.text s.place v.place) (captured k s.place) (node_outcomes context a Forward s) (h.each context valid s);
}

pub Reaches-atomic : (r : Reach) (first last : ℕ) (a : Tree) → Reaches r a → Reaches r (submatch atomic first last a)
unfolding node_outcomes
Reaches-atomic r first last a h = record {
  each = λ context valid s. All-take (λ v. HoldsTo r context.text s.place v.place) 1 (node_outcomes context a Forward s) (h.each context valid s);
}

All-filter : {A : Type 0} (P : A → Type 0) (test : A → Bool) (xs : List A) → All P xs → All P (filter test xs)
All-filter P test [] h = All-nil P
All-filter P test (x ∷ xs) h = by_test (test x) (All-filter P test xs (All-tail P x xs h))
  where
    by_test : (b : Bool) → All P (filter test xs) → All P (cond b (x ∷ filter test xs) (filter test xs))
    by_test true rest = All-cons P x (filter test xs) (All-head P x xs h) rest
    by_test false rest = rest

-- any number of iterations of a body
module _ (text : List ℕ) (body : Outcomes) (each more : Span)
    (nothing : TakesNothing more) (joins : (a b c : List ℕ) → Takes each a b → Takes more b c → Takes more a c)
    (takes : (s : State) → All (λ (u : State). Takes each (drop s.place text) (drop u.place text)) (body s)) where
  abbrev To : State → State → Type 0
  To s u = Takes more (drop s.place text) (drop u.place text)

  iterated : (greedy : Bool) (most least : ℕ) (s : State) → All (To s) (iterations body greedy most least s)
  unfolding iterations
  iterated greedy zero least s = All-cons (To s) s [] (nothing (drop s.place text)) (All-nil (To s))
  iterated greedy (suc most) zero s =
      by_greedy greedy
      (All-flat_map (λ (u : State). Takes each (drop s.place text) (drop u.place text)) (To s) (iterations body greedy most zero)
      (λ u h k d l. joins _ _ _ h (iterated greedy most zero u k d l)) (filter (moved s) (body s)) (All-filter (λ (u : State). Takes each (drop s.place text) (drop u.place text)) (moved s) (body s) (takes s)))
    where
      by_greedy : (b : Bool) → All (To s) (flat_map (iterations body greedy most zero) (filter (moved s) (body s)))
          → All (To s) (if b then flat_map (iterations body greedy most zero) (filter (moved s) (body s)) ++ s ∷ [] else s ∷ flat_map (iterations body greedy most zero) (filter (moved s) (body s)))
      by_greedy true others = All-append (To s) _ (s ∷ []) others (All-cons (To s) s [] (nothing (drop s.place text)) (All-nil (To s)))
      by_greedy false others = All-cons (To s) s _ (nothing (drop s.place text)) others
  iterated greedy (suc most) (suc least) s =
      All-flat_map (λ (u : State). Takes each (drop s.place text) (drop u.place text)) (To s) (iterations body greedy most least)
      (λ u h k d l. joins _ _ _ h (iterated greedy most least u k d l)) (body s) (takes s)

pub Reaches-many : (each more : Span) (t : Tree) (least most : ℕ) (greedy : Bool) → more.run ≡ each.run → more.least ≡ 0 → more.exact ≡ false
    → Reaches (Taken each) t → Reaches (Taken more) (single_loop t least most greedy)
unfolding node_outcomes
Reaches-many each more t least most greedy run none free h = record {
  each = λ context valid s. iterated context.text (node_outcomes context t Forward) each more
      (λ text. record {
        front = [];
        cut = refl;
        run = refl;
        least = omega (arith, none);
        exact = λ e. absurd (false≢true (sym free ∙ e));
        low = λ e. absurd (false≢true (sym free ∙ e));
      })
      (λ a b c one other. Takes-both each more more a b c (λ x e. rw run e) (λ x e. e) (omega (arith, none)) (λ e. absurd (false≢true (sym free ∙ e))) one other)
      (h.each context valid) greedy most least s;
}

-- ---- the bytes of one character

module _ (run : ℕ → Bool) (others : (b : ℕ) → 0x80 ≤ b → b < 0xC0 → run b ≡ true) where
  next-in : (bits : ℕ) → run (128 + bits % 64) ≡ true
  next-in bits = others (128 + bits % 64) (omega arith) (omega arith)

  -- the first is in the set, and the others go on with a character
  pub all-bytes : (c : ℕ) → run (lead c) ≡ true → list_all run (encode c) ≡ true
  unfolding encode lead
  all-bytes c first = go (nat_lt c 128) (nat_lt c 2048) (nat_lt c 65536) first
    where
      go : (one two three : Bool) → run (if one then c else if two then 192 + c / 64 else if three then 224 + c / 4096 else 240 + c / 262144) ≡ true
          → list_all run (cond one (c ∷ []) (cond two ((192 + c / 64) ∷ (128 + c % 64) ∷ []) (cond three ((224 + c / 4096) ∷ (128 + (c / 64) % 64) ∷ (128 + c % 64) ∷ [])
          ((240 + c / 262144) ∷ (128 + (c / 4096) % 64) ∷ (128 + (c / 64) % 64) ∷ (128 + c % 64) ∷ [])))) ≡ true
      go true two three h = rw h refl
      go false true three h = rw (h, next-in c) refl
      go false false true h = rw (h, next-in (c / 64), next-in c) refl
      go false false false h = rw (h, next-in (c / 4096), next-in (c / 64), next-in c) refl

-- ASCII is taken as it is
pub low-lead : (c : ℕ) → c ≤ 0x10_FFFF → lead c < 128 → c < 128
unfolding lead
low-lead c point low = grind (arith, nat_tests)

pub small-lead : (c : ℕ) → c ≤ 0x10_FFFF → lead c < 256
unfolding lead
small-lead c point = grind (arith, nat_tests)

pub lead-passes : (c : ℕ) (first : ℕ → Bool) → is_some_and (slice_get (encode_utf8 c) 0) first ≡ true → first (lead c) ≡ true
lead-passes c first h = sym (ap (λ (o : Option ℕ). is_some_and o first) (has-lead c)) ∙ h

pub one-char : (c : ℕ) → encode_utf8_all (c ∷ []) ≡ encode_utf8 c
one-char c = append-nil (encode_utf8 c)

-- characters take bytes
small-bytes : (cs : List ℕ) → All is_code_point cs → list_all (λ b. nat_lt b 256) (encode_utf8_all cs) ≡ true
small-bytes [] all = refl
small-bytes (c ∷ cs) all =
    let one : list_all (λ b. nat_lt b 256) (encode_utf8 c) ≡ true =
    all-bytes (λ b. nat_lt b 256) (λ b above below. lt-ltb b 256 (omega (arith, below))) c (lt-ltb (lead c) 256 (small-lead c (All-head is_code_point c cs all))) in
    list_all-append (λ b. nat_lt b 256) (encode_utf8 c) (encode_utf8_all cs) ∙ rw one (small-bytes cs (All-tail is_code_point c cs all))

-- where each byte that passes one test passes the other
run-wider : (p q : ℕ → Bool) (byte : ℕ) (xs : List ℕ) → ((b : ℕ) → b < 256 → p b ≡ true → q b ≡ true) → list_all (λ b. nat_lt b 256) xs ≡ true
    → run_then p byte xs ≡ true → run_then q byte xs ≡ true
run-wider p q byte [] wider small e = e
run-wider p q byte (x ∷ xs) wider small e =
    let parts = both-parts (not (nat_eq byte x) && p x) (is_some_and (slice_get xs 0) (nat_eq byte) || run_then p byte xs) e in
    let first = both-parts (not (nat_eq byte x)) (p x) parts.0 in
    let low = both-parts (nat_lt x 256) (list_all (λ b. nat_lt b 256) xs) small in
    rw (first.0, wider x (ltb-true x 256 low.0) first.1) (either (is_some_and (slice_get xs 0) (nat_eq byte)) (run-wider p q byte xs wider low.1) parts.1)
  where
    either : (a : Bool) → (run_then p byte xs ≡ true → run_then q byte xs ≡ true) → (a || run_then p byte xs) ≡ true → (a || run_then q byte xs) ≡ true
    either true on e = refl
    either false on e = on e

pub Reaches-run : (run low : ByteBitmap) (byte : ℕ) (t : Tree) → ((b : ℕ) → b < 256 → byte_bitmap_contains run b ≡ true → byte_bitmap_contains low b ≡ true)
    → Reaches (By (BehindRun run byte)) t → Reaches (By (BehindRun low byte)) t
Reaches-run run low byte t wider h = record {
  each = λ context valid s k d inside.
      let there = (h.each context valid s k d inside).0 in
      let rest = rest-at context.text s.place in (
        ap (run_then (byte_bitmap_contains low) byte) rest
            ∙ run-wider (byte_bitmap_contains run) (byte_bitmap_contains low) byte (encode_utf8_all (drop s.place context.text)) wider
            (small-bytes (drop s.place context.text) (All-drop is_code_point s.place context.text valid)) (ap (run_then (byte_bitmap_contains run) byte) (sym rest) ∙ there),
        tt,
      );
}

pub CoversOne-ascii : (first : ℕ → Bool) (span : Span) → ((b : ℕ) → b < 256 → first b ≡ true → b < 0x80)
    → ((b : ℕ) → first b ≡ true → byte_bitmap_contains span.run b ≡ true) → span.least ≡ 1 → CoversOne first span
CoversOne-ascii first span low within one c rest point h =
    let begins = lead-passes c first h in
    let small : c < 128 = low-lead c point (low (lead c) (small-lead c point) begins) in
    let is : encode_utf8 c ≡ c ∷ [] = encode_ascii c small in
    let bytes = one-char c ∙ is in
    let same : Some (lead c) ≡ Some c = sym (has-lead c) ∙ ap (λ xs. slice_get xs 0) is in
    let equal : lead c ≡ c = cc in
    record {
      front = c ∷ [];
      cut = refl;
      run = ap (list_all (byte_bitmap_contains span.run)) bytes ∙ rw (within c (ap first (sym equal) ∙ begins)) refl;
      least = let e = ap length bytes in omega (arith, e, one);
      exact = λ e. ap length bytes ∙ sym one;
      low = λ e. All-cons (λ d. d < 0x80) c [] small (All-nil (λ d. d < 0x80));
    }

pub CoversOne-more : (first : ℕ → Bool) (span : Span) → ((b : ℕ) → first b ≡ true → byte_bitmap_contains span.run b ≡ true)
    → ((b : ℕ) → 0x80 ≤ b → b < 0xC0 → byte_bitmap_contains span.run b ≡ true) → span.least ≡ 1 → span.exact ≡ false → CoversOne first span
CoversOne-more first span within others one free c rest point h =
    record {
      front = c ∷ [];
      cut = refl;
      run = ap (list_all (byte_bitmap_contains span.run)) (one-char c) ∙ all-bytes (byte_bitmap_contains span.run) others c (within (lead c) (lead-passes c first h));
      least = let e = ap length (one-char c) in let l = length-encode c in let b = (len_utf8_bounds c).0 in omega (arith, e, l, b, one);
      exact = λ e. absurd (false≢true (sym free ∙ e));
      low = λ e. absurd (false≢true (sym free ∙ e));
    }

-- ---- sets of two, and what is exact of two

pub in-left : (p q r : Bool) → r ≡ (p || q) → p ≡ true → r ≡ true
in-left true q r e h = e
in-left false q r e h = absurd (cc)

pub in-right : (p q r : Bool) → r ≡ (p || q) → q ≡ true → r ≡ true
in-right true q r e h = e
in-right false q r e h = e ∙ h

pub both-exact : {A : Type 0} (p q : Bool) → (p && q) ≡ true → A → (p ≡ true) × (q ≡ true) × A
both-exact true q e a = (refl, e, a)
both-exact false q e a = absurd (cc)
