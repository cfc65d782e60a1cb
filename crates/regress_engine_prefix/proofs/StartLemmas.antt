-- What start predicates say of texts.
use Rattle.std.proofs.Common.{◌≡◌, ◌≢◌, ℕ, zero, suc, ◌<◌, ◌≤◌, ◌+◌, ◌||◌, Bool, true, false, List, [], ◌∷◌, ◌++◌, length, take, drop, get_or, slice_get, nat_eq, Option, Some, None, IfSome, All, cond, filter, refl, sym, ap, subst, ◌∙◌, inl, inr, arith}
use Rattle.std.specs.Prelude.{◌==◌}
use Rattle.std.specs.List.{range_with_len}
use Rattle.std.specs.Str.{chars, encode_utf8_all, IsUtf8, IsCharBoundary}
use Rattle.std.proofs.lemmas.Bool.{eqb-true, eq-eqb}
use Rattle.std.proofs.Math.Bool.{or-false}
use Rattle.std.proofs.lemmas.Option.{slice_get_within, get_or_from_slice_get}
use Rattle.std.proofs.lemmas.List.{take-append-drop, drop_at}
use Rattle.std.proofs.lemmas.List.FromFn.{length-range_with_len, get_or-range_with_len}
use Rattle.std.proofs.lemmas.List.Elements.{All-head}
use Rattle.std.proofs.lemmas.Str.{encodes-append, encodes-chars}
use Rattle.regress_meaning.specs.Text.{holds}
use Rattle.regress_meaning.specs.Offsets.{of_utf8, offset}
use Rattle.regress_meaning.specs.Meaning.{Context, State, Forward, is_some_and}
use Rattle.regress_front_bytes.specs.ByteSets.{members, all_bytes}
use Rattle.regress_front_nodes.specs.Trees.{Tree}
use Rattle.regress_front_nodes.specs.TreeMeaning.{node_outcomes}
use Rattle.regress_front_bytes.proofs.TextLemmas.{length-encodes, chars-code_points}
use Rattle.regress_engine_prefix.specs.FirstBytes.{MayLead}
use Rattle.regress_engine_prefix.specs.Prefixes.{Holds, HoldsFrom, first_literal, HasBytes, Foretells}
use Rattle.regress_front_bytes.specs.declared.bitmaps.ByteBitmap.{ByteBitmap}
use Rattle.regress_front_bytes.specs.Bitmaps.{byte_bitmap_contains}
use Rattle.regress_engine_scanning.specs.Landmarks.{run_then, stands}
use Rattle.regress_engine_prefix.specs.Reaches.{AreLowTo, StandsAt, Reaches}
use Rattle.regress_engine_scanning.specs.declared.landmark.Landmark.{Landmark}
use Rattle.regress_engine_scanning.specs.declared.landmark.Landmark.TheVariants.{Ahead, BehindRun}
use Rattle.regress_engine_prefix.specs.declared.reach.Reach.TheVariants.{By}
use Rattle.regress_engine_scanning.proofs.LandmarkLemmas.{begins-parts, begins-both}
use Rattle.regress_engine_prefix.proofs.ReachLemmas.{ahead-at, rest-at}
use Rattle.regress_engine_prefix.specs.Starts.{BeginsCharacters, SaysNoMore, HitsBoundaries, IsAnchoredOnlyIf, IsAtStart, HoldsAtStart, IsSequence, KeepsSequence, KeepsLiteral, IsStartOf}
use Rattle.regress_engine_prefix.specs.declared.prefix.Prefix.{Prefix}
use Rattle.regress_engine_prefix.specs.declared.start.StartPredicate.{StartPredicate}
use Rattle.regress_engine_prefix.specs.declared.prefix.Prefix.TheVariants.{Still, Unknown, Start, Bytes, First, Pair}
use Rattle.regress_engine_prefix.specs.declared.start.StartPredicate.TheVariants.{Arbitrary, ByteSet1, ByteSet2, ByteSet3, ByteSeq, ByteBracket, ByteNear, StartAnchored}
use Rattle.regress_engine_prefix.specs.declared.start.StartPredicate.TheVariants as variant

-- ---- bytes at an offset

pub slice_get-drop : (xs : List ℕ) (n : ℕ) → slice_get (drop n xs) 0 ≡ slice_get xs n
slice_get-drop xs zero = refl
slice_get-drop [] (suc n) = refl
slice_get-drop (x ∷ xs) (suc n) = slice_get-drop xs n

passes-more : (o : Option ℕ) (p q : ℕ → Bool) → ((b : ℕ) → p b ≡ true → q b ≡ true) → is_some_and o p ≡ true → is_some_and o q ≡ true
passes-more None p q h e = absurd (cc)
passes-more (Some b) p q h e = h b e

-- a byte of the bytes behind an offset is one at the offset, by a test that asks no more
pub passes-at : (bytes : List ℕ) (at : ℕ) (p q : ℕ → Bool) → ((b : ℕ) → p b ≡ true → q b ≡ true)
    → is_some_and (slice_get (drop at bytes) 0) p ≡ true → is_some_and (slice_get bytes at) q ≡ true
passes-at bytes at p q h e = passes-more (slice_get bytes at) p q h (rw slice_get-drop at e)

byte-boundary : (bytes : List ℕ) (at b : ℕ) → slice_get bytes at ≡ Some b → MayLead b → IsCharBoundary bytes at
byte-boundary bytes at b e lead =
    let within = slice_get_within bytes at b e in
    let is = get_or_from_slice_get bytes at b 0 e in
    (omega arith, λ inside high. by_kind is high lead)
  where
    by_kind : get_or bytes at 0 ≡ b → 128 ≤ get_or bytes at 0 → MayLead b → 192 ≤ get_or bytes at 0
    by_kind is high (inl low) = absurd (omega arith)
    by_kind is high (inr first) = omega (arith, first.0)

-- where a first byte stands is a boundary
pub test-boundary : (bytes : List ℕ) (at : ℕ) (test : ℕ → Bool) → ((b : ℕ) → test b ≡ true → MayLead b)
    → is_some_and (slice_get bytes at) test ≡ true → IsCharBoundary bytes at
test-boundary bytes at test leads e = go (slice_get bytes at) refl e
  where
    go : (o : Option ℕ) → slice_get bytes at ≡ o → is_some_and o test ≡ true → IsCharBoundary bytes at
    go None same h = absurd (cc)
    go (Some b) same h = byte-boundary bytes at b same (leads b h)

pub front-first : (front zs : List ℕ) → 0 < length front → take (length front) zs ≡ front → slice_get zs 0 ≡ slice_get front 0
front-first [] zs some e = absurd (omega arith)
front-first (x ∷ xs) [] some e = absurd (cc)
front-first (x ∷ xs) (z ∷ zs) some e = let same : z ≡ x = cc in ap Some same

has-first : (front : List ℕ) → 0 < length front → (b : ℕ) × (slice_get front 0 ≡ Some b)
has-first [] some = absurd (omega arith)
has-first (x ∷ xs) some = (x, refl)

-- and so where bytes stand that begin with one
pub front-boundary : (bytes : List ℕ) (at : ℕ) (front : List ℕ) → 0 < length front → ((b : ℕ) → slice_get front 0 ≡ Some b → MayLead b)
    → take (length front) (drop at bytes) ≡ front → IsCharBoundary bytes at
front-boundary bytes at front some leads e =
    let first = has-first front some in
    byte-boundary bytes at first.0 (sym (slice_get-drop bytes at) ∙ front-first front (drop at bytes) some e ∙ first.1) (leads first.0 first.1)

-- bytes of which there is one
pub single-begins : (bytes : List ℕ) (at : ℕ) (front : List ℕ) → length front ≡ 1 → take (length front) (drop at bytes) ≡ front
    → is_some_and (slice_get bytes at) (holds (get_or front 0 0 ∷ [])) ≡ true
single-begins bytes at [] one e = absurd (omega arith)
single-begins bytes at (x ∷ xs) one e =
    let there : slice_get bytes at ≡ Some x = sym (slice_get-drop bytes at) ∙ front-first (x ∷ xs) (drop at bytes) (omega arith) e in
    rw there (ap (λ t. t || false) (eq-eqb x x refl))

pub single-leads : (front : List ℕ) → length front ≡ 1 → ((c : ℕ) → slice_get front 0 ≡ Some c → MayLead c)
    → (c : ℕ) → holds (get_or front 0 0 ∷ []) c ≡ true → MayLead c
single-leads [] one leads c e = absurd (omega arith)
single-leads (x ∷ xs) one leads c e = let same = eqb-true x c (sym (or-false (x == c)) ∙ e) in leads c (ap Some same)

-- ---- the members of a set of bytes

filter-finds : (test : ℕ → Bool) (xs : List ℕ) (k b : ℕ) → k < length xs → get_or xs k 0 ≡ b → test b ≡ true → holds (filter test xs) b ≡ true
filter-finds test [] k b within is e = absurd (omega arith)
filter-finds test (x ∷ xs) zero b within is e = rw (is, e) (ap (λ t. t || holds (filter test xs) b) (eq-eqb b b refl))
filter-finds test (x ∷ xs) (suc k) b within is e = by_test (test x) (filter-finds test xs k b (omega arith) is e)
  where
    either : (s t : Bool) → t ≡ true → (s || t) ≡ true
    either true t h = refl
    either false t h = h

    by_test : (t : Bool) → holds (filter test xs) b ≡ true → holds (cond t (x ∷ filter test xs) (filter test xs)) b ≡ true
    by_test true h = either (x == b) (holds (filter test xs) b) h
    by_test false h = h

filter-passes : (test : ℕ → Bool) (xs : List ℕ) (b : ℕ) → holds (filter test xs) b ≡ true → test b ≡ true
filter-passes test [] b e = absurd (cc)
filter-passes test (x ∷ xs) b e = by_test (test x) refl e (filter-passes test xs b)
  where
    by_first : (s : Bool) → (x == b) ≡ s → test x ≡ true → (s || holds (filter test xs) b) ≡ true → (holds (filter test xs) b ≡ true → test b ≡ true) → test b ≡ true
    by_first true same h k rest = rw (eqb-true x b same) at h
    by_first false same h k rest = rest k

    by_test : (t : Bool) → test x ≡ t → holds (cond t (x ∷ filter test xs) (filter test xs)) b ≡ true → (holds (filter test xs) b ≡ true → test b ≡ true) → test b ≡ true
    by_test true h k rest = by_first (x == b) refl h k rest
    by_test false h k rest = rest k

small-lead : (b : ℕ) → MayLead b → b < 256
small-lead b (inl low) = omega arith
small-lead b (inr high) = omega (arith, high.1)

pub member-held : (test : ℕ → Bool) (array : List ℕ) → array ≡ members test → ((b : ℕ) → test b ≡ true → MayLead b)
    → (b : ℕ) → test b ≡ true → holds array b ≡ true
unfolding all_bytes
member-held test array is leads b e =
    let below = small-lead b (leads b e) in
    rw is
    (filter-finds test (range_with_len 0 256) b b (omega (arith, length-range_with_len 0 256)) (get_or-range_with_len 0 256 b 0 below ∙ omega arith) e)

pub held-leads : (test : ℕ → Bool) (array : List ℕ) → array ≡ members test → ((b : ℕ) → test b ≡ true → MayLead b)
    → (b : ℕ) → holds array b ≡ true → MayLead b
held-leads test array is leads b e = leads b (filter-passes test all_bytes b (rw is at e))

-- ---- from prefixes to predicates

-- the bytes of a text from the offset of a place on are those of the characters from there
pub rest-of-text : (bytes : List ℕ) → IsUtf8 bytes → (p : ℕ) → drop (offset (of_utf8 bytes) p) bytes ≡ encode_utf8_all (drop p (chars bytes))
rest-of-text bytes utf8 p =
    let cs = chars bytes in
    let front = encode_utf8_all (take p cs) in
    let back = encode_utf8_all (drop p cs) in
    let cut : bytes ≡ front ++ back = sym (encodes-chars bytes utf8) ∙ ap encode_utf8_all (sym (take-append-drop p cs)) ∙ encodes-append (take p cs) (drop p cs) in
    ap (drop (offset (of_utf8 bytes) p)) cut ∙ drop_at front back (offset (of_utf8 bytes) p) (length-encodes (take p cs))

pub offset-start : (bytes : List ℕ) (p : ℕ) → p ≡ 0 → offset (of_utf8 bytes) p ≡ 0
offset-start bytes p e = rw e refl

pub some-holds : (prefix : Prefix) (context : Context) (s : State) (us : List State) → us ≢ [] → HoldsFrom prefix context s us
    → (e : ℕ) × Holds prefix s.place (encode_utf8_all (drop s.place context.text)) e
some-holds prefix context s [] some h = absurd (some refl)
some-holds prefix context s (u ∷ us) some h =
    (u.place, All-head (λ v. Holds prefix s.place (encode_utf8_all (drop s.place context.text)) v.place) u us h)

-- what is foretold of a tree makes a start of it
pub start-of : (start : StartPredicate) (prefix : Prefix) (t : Tree) → SaysNoMore start prefix → Foretells prefix t → IsStartOf start t
start-of start prefix t says told = record {
  each = λ bytes utf8 context same s some.
      let points = subst (All (λ c. c ≤ 0x10_FFFF)) (sym same) (chars-code_points bytes utf8) in
      let held = some-holds prefix context s (node_outcomes context t Forward s) some (told.each context points s) in
      says s.place bytes (offset (of_utf8 bytes) s.place) held.0 (offset-start bytes s.place)
      (subst (λ rest. Holds prefix s.place rest held.0) (ap (λ text. encode_utf8_all (drop s.place text)) same ∙ sym (rest-of-text bytes utf8 s.place)) held.1);
}

-- what is foretold to be at the start of the text is there
pub holds-at_start : (start : StartPredicate) (prefix : Prefix) (t : Tree) → IsAnchoredOnlyIf (IsAtStart prefix) start → Foretells prefix t → HoldsAtStart t start
holds-at_start StartAnchored Start t is told = λ context points s some. (some-holds Start context s (node_outcomes context t Forward s) some (told.each context points s)).1
holds-at_start StartAnchored Still t is told = absurd is
holds-at_start StartAnchored Unknown t is told = absurd is
holds-at_start StartAnchored (Bytes _) t is told = absurd is
holds-at_start StartAnchored (First _) t is told = absurd is
holds-at_start StartAnchored (Pair _ _) t is told = absurd is
holds-at_start Arbitrary prefix t is told = tt
holds-at_start (ByteSet1 _) prefix t is told = tt
holds-at_start (ByteSet2 _) prefix t is told = tt
holds-at_start (ByteSet3 _) prefix t is told = tt
holds-at_start (ByteSeq _) prefix t is told = tt
holds-at_start (ByteBracket _) prefix t is told = tt
holds-at_start (ByteNear _ _) prefix t is told = tt
holds-at_start (variant.BytePair _) prefix t is told = tt
holds-at_start (variant.WordStart _) prefix t is told = tt

-- what is known of a literal is looked for
pub keeps-literal : (start : StartPredicate) (prefix : Prefix) (t : Tree) → KeepsSequence prefix start → Foretells prefix t → KeepsLiteral t start
keeps-literal start prefix t keeps told = go (first_literal t) told.spelled
  where
    go : (o : Option (List ℕ)) → IfSome o (HasBytes prefix) → IfSome o (λ bs. 2 ≤ length bs → IsSequence start bs)
    go None h = tt
    go (Some bs) h = keeps bs h

-- ---- a byte that stands by

some-stands : (landmark : Landmark) (text : List ℕ) (s : State) (us : List State) → us ≢ []
    → All (λ (u : State). StandsAt landmark text s.place × AreLowTo landmark (drop s.place text)) us → StandsAt landmark text s.place × AreLowTo landmark (drop s.place text)
some-stands landmark text s [] some h = absurd (some refl)
some-stands landmark text s (u ∷ us) some h = All-head (λ (v : State). StandsAt landmark text s.place × AreLowTo landmark (drop s.place text)) u us h

-- what stands by a place stands by its offset
place-stands : (landmark : Landmark) (bytes : List ℕ) → IsUtf8 bytes → (p : ℕ) → StandsAt landmark (chars bytes) p → stands landmark bytes (offset (of_utf8 bytes) p) ≡ true
place-stands landmark bytes utf8 p h =
    subst (λ o. stands landmark bytes o ≡ true) (length-encodes (take p (chars bytes)))
    (subst (λ bs. stands landmark bs (length (encode_utf8_all (take p (chars bytes)))) ≡ true) (encodes-chars bytes utf8) h)

-- the bytes by which a byte stands that stands by each match
pub near-start : (set : ByteBitmap) (landmark : Landmark) (t : Tree) → IsStartOf (ByteBracket set) t → Reaches (By landmark) t → IsStartOf (ByteNear set landmark) t
near-start set landmark t start reach = record {
  each = λ bytes utf8 context same s some.
      let points = subst (All (λ c. c ≤ 0x10_FFFF)) (sym same) (chars-code_points bytes utf8) in
      let held = some-stands landmark context.text s (node_outcomes context t Forward s) some (reach.each context points s) in
      begins-both set landmark bytes (offset (of_utf8 bytes) s.place) (start.each bytes utf8 context same s some)
      (place-stands landmark bytes utf8 s.place (subst (λ text. StandsAt landmark text s.place) same held.0));
}

pub near-boundary : (set : ByteBitmap) (landmark : Landmark) → HitsBoundaries (ByteBracket set) → HitsBoundaries (ByteNear set landmark)
near-boundary set landmark h known bytes utf8 at begins = h refl bytes utf8 at (begins-parts set landmark bytes at begins).0

-- ---- the same of characters

-- what stands by a place stands by the start of the bytes from there on
place-front : (landmark : Landmark) (text : List ℕ) (place : ℕ) → StandsAt landmark text place → stands landmark (encode_utf8_all (drop place text)) 0 ≡ true
place-front (Ahead distance byte) text place h =
    let none : 0 + distance ≡ distance = omega arith in
    ap (λ n. is_some_and (slice_get (encode_utf8_all (drop place text)) n) (nat_eq byte)) none ∙ ap (λ o. is_some_and o (nat_eq byte)) (sym (ahead-at text place distance)) ∙ h
place-front (BehindRun run byte) text place h = ap (run_then (byte_bitmap_contains run) byte) (sym (rest-at text place)) ∙ h

pub near-characters : (set : ByteBitmap) (landmark : Landmark) (t : Tree) → BeginsCharacters (ByteBracket set) t → Reaches (By landmark) t → BeginsCharacters (ByteNear set landmark) t
near-characters set landmark t begins reach = record {
  each = λ context points s some.
      let held = some-stands landmark context.text s (node_outcomes context t Forward s) some (reach.each context points s) in
      begins-both set landmark (encode_utf8_all (drop s.place context.text)) 0 (begins.each context points s some) (place-front landmark context.text s.place held.0);
  near = λ context points s some. (some-stands landmark context.text s (node_outcomes context t Forward s) some (reach.each context points s)).1;
  apart = λ context points s some. tt;
}
