-- Where one byte stands right behind another.
use Rattle.std.specs.Prelude.{encode_utf8}
use Rattle.std.proofs.Common.{◌≡◌, ℕ, zero, suc, ◌+◌, ◌<◌, ◌≤◌, inl, inr, Bool, true, List, [], ◌∷◌, length, drop, slice_get, nat_lt, Option, Some, None, IfSome, All, encode_utf8_all, lt-ltb, refl, sym, ap, subst, ◌∙◌, arith}
use Rattle.std.specs.List.{list_all}
use Rattle.std.specs.Str.{chars, IsUtf8}
use Rattle.std.proofs.lemmas.Bool.{ltb-true}
use Rattle.std.proofs.lemmas.Option.{slice_get_within}
use Rattle.std.proofs.lemmas.List.Elements.{All-head, All-tail}
use Rattle.std.proofs.lemmas.List.Folds.{list_all-append}
use Rattle.std.proofs.lemmas.Str.{encodes-chars}
use Rattle.regress_meaning.specs.TableParts.{is_code_point}
use Rattle.regress_meaning.specs.Offsets.{of_utf8, offset}
use Rattle.regress_meaning.specs.Meaning.{Forward, is_some_and}
use Rattle.regress_meaning.specs.Text.{holds}
use Rattle.regress_front_bytes.specs.Bitmaps.{byte_bitmap_contains}
use Rattle.regress_engine_scanning.specs.Units.{AreAscii}
use Rattle.regress_front_bytes.proofs.TextLemmas.{chars-code_points}
use Rattle.regress_front_sets.proofs.FirstByteLemmas.{lead}
use Rattle.regress_front_nodes.specs.Trees.{Tree}
use Rattle.regress_front_nodes.specs.TreeMeaning.{node_outcomes}
use Rattle.regress_engine_prefix.specs.Choosing.{TellsPair, is_set, is_set_or_pair, IsOr}
use Rattle.regress_engine_prefix.specs.Prefixes.{Holds, first_literal, Foretells}
use Rattle.regress_engine_prefix.specs.Starts.{IsStartOf, HitsBoundaries, IsSequence, KeepsAscii, KeepsLiteral}
use Rattle.regress_engine_prefix.specs.declared.prefix.Prefix.{Prefix}
use Rattle.regress_engine_prefix.specs.declared.prefix.Prefix.TheVariants.{Still, Unknown, Start, Bytes, First, Pair}
use Rattle.regress_engine_prefix.specs.declared.start.StartPredicate.{StartPredicate}
use Rattle.regress_engine_prefix.specs.declared.start.StartPredicate.TheVariants.{Arbitrary, ByteSet1, ByteSet2, ByteSet3, ByteSeq, ByteBracket, ByteNear, StartAnchored}
use Rattle.regress_engine_prefix.specs.declared.start.StartPredicate.TheVariants as variant
use Rattle.regress_engine_scanning.specs.NibbleSets.{nibble_set_contains}
use Rattle.regress_engine_scanning.specs.declared.byte_pair.BytePair.{BytePair}
use Rattle.regress_engine_scanning.proofs.ByteLemmas.{slice_get-behind}
use Rattle.regress_engine_prefix.proofs.ReachLemmas.{all-bytes, small-lead}
use Rattle.regress_engine_prefix.proofs.StartLemmas.{test-boundary, slice_get-drop, rest-of-text, some-holds}
use Rattle.regress_engine_scanning.proofs.LandmarkLemmas.{both-parts}
use Rattle.regress_engine_scanning.proofs.PairMarks.{pair-both, pair-parts}

-- ---- bytes of UTF-8

abbrev pub is_small : ℕ → Bool
is_small b = nat_lt b 256

small-all : (cs : List ℕ) → All is_code_point cs → list_all is_small (encode_utf8_all cs) ≡ true
small-all [] points = refl
small-all (c ∷ cs) points =
    list_all-append is_small (encode_utf8 c) (encode_utf8_all cs)
    ∙ rw (all-bytes is_small (λ b low high. lt-ltb b 256 (omega arith)) c (lt-ltb (lead c) 256 (small-lead c (All-head is_code_point c cs points))), small-all cs (All-tail is_code_point c cs points)) refl

small-at : (xs : List ℕ) (k b : ℕ) → list_all is_small xs ≡ true → slice_get xs k ≡ Some b → b < 256
small-at [] k b all e = let within = slice_get_within [] k b e in absurd (omega arith)
small-at (x ∷ xs) zero b all e = let same : x ≡ b = cc in subst (λ n. n < 256) same (ltb-true x 256 (both-parts (is_small x) (list_all is_small xs) all).0)
small-at (x ∷ xs) (suc k) b all e = small-at xs k b (both-parts (is_small x) (list_all is_small xs) all).1 e

pub utf8-small : (bytes : List ℕ) → IsUtf8 bytes → (k b : ℕ) → slice_get bytes k ≡ Some b → b < 256
utf8-small bytes utf8 k b e =
    small-at bytes k b (subst (λ bs. list_all is_small bs ≡ true) (encodes-chars bytes utf8) (small-all (chars bytes) (chars-code_points bytes utf8))) e

-- tests that agree on bytes agree on those of a list of them
same-small : (bytes : List ℕ) → ((k b : ℕ) → slice_get bytes k ≡ Some b → b < 256) → (at : ℕ) (p q : ℕ → Bool) → ((b : ℕ) → b < 256 → p b ≡ q b)
    → is_some_and (slice_get bytes at) p ≡ is_some_and (slice_get bytes at) q
same-small bytes small at p q same = go (slice_get bytes at) refl
  where
    go : (o : Option ℕ) → slice_get bytes at ≡ o → is_some_and o p ≡ is_some_and o q
    go None e = refl
    go (Some b) e = same b (small at b e)

-- as of those of UTF-8
pub same-there : (bytes : List ℕ) → IsUtf8 bytes → (at : ℕ) (p q : ℕ → Bool) → ((b : ℕ) → b < 256 → p b ≡ q b) → is_some_and (slice_get bytes at) p ≡ is_some_and (slice_get bytes at) q
same-there bytes utf8 at p q same = same-small bytes (utf8-small bytes utf8) at p q same

-- and of those of characters
pub same-points : (cs : List ℕ) → All is_code_point cs → (at : ℕ) (p q : ℕ → Bool) → ((b : ℕ) → b < 256 → p b ≡ q b)
    → is_some_and (slice_get (encode_utf8_all cs) at) p ≡ is_some_and (slice_get (encode_utf8_all cs) at) q
same-points cs points at p q same = same-small (encode_utf8_all cs) (λ k b. small-at (encode_utf8_all cs) k b (small-all cs points)) at p q same

-- ---- where matches begin

-- a tree begins with a pair that is foretold
pub pair-start : (pair : BytePair) (prefix : Prefix) (t : Tree) → TellsPair pair prefix → Foretells prefix t → IsStartOf (variant.BytePair pair) t
pair-start pair (Pair first second) t tells told = record {
  each = λ bytes utf8 context same s some.
      let points = subst (All (λ c. c ≤ 0x10_FFFF)) (sym same) (chars-code_points bytes utf8) in
      let held = some-holds (Pair first second) context s (node_outcomes context t Forward s) some (told.each context points s) in
      let at = offset (of_utf8 bytes) s.place in
      let here : Holds (Pair first second) s.place (drop at bytes) held.0 =
      subst (λ rest. Holds (Pair first second) s.place rest held.0) (ap (λ text. encode_utf8_all (drop s.place text)) same ∙ sym (rest-of-text bytes utf8 s.place)) held.1 in
      pair-both pair bytes at
      (same-there bytes utf8 at (nibble_set_contains pair.first) (byte_bitmap_contains first) tells.0 ∙ sym (ap (λ (o : Option ℕ). is_some_and o (byte_bitmap_contains first)) (slice_get-drop bytes at)) ∙ here.0)
      (same-there bytes utf8 (at + 1) (nibble_set_contains pair.second) (byte_bitmap_contains second) tells.1
      ∙ sym (ap (λ (o : Option ℕ). is_some_and o (byte_bitmap_contains second)) (slice_get-behind bytes at 1)) ∙ here.1);
}
pair-start pair Still t tells told = absurd tells
pair-start pair Unknown t tells told = absurd tells
pair-start pair Start t tells told = absurd tells
pair-start pair (Bytes _) t tells told = absurd tells
pair-start pair (First _) t tells told = absurd tells

-- and stands at boundaries alone
pub pair-boundary : (pair : BytePair) (prefix : Prefix) (t : Tree) → TellsPair pair prefix → Foretells prefix t → HitsBoundaries (variant.BytePair pair)
pair-boundary pair (Pair first second) t tells told = λ known bytes utf8 at begins.
    test-boundary bytes at (byte_bitmap_contains first) told.leads
    (sym (same-there bytes utf8 at (nibble_set_contains pair.first) (byte_bitmap_contains first) tells.0) ∙ (pair-parts pair bytes at begins).0)
pair-boundary pair Still t tells told = absurd tells
pair-boundary pair Unknown t tells told = absurd tells
pair-boundary pair Start t tells told = absurd tells
pair-boundary pair (Bytes _) t tells told = absurd tells
pair-boundary pair (First _) t tells told = absurd tells

-- ---- one predicate in place of another

-- what holds of a predicate holds of one that may take its place, if it holds of what takes it
pub or-keeps : {A : Type 0} (P : StartPredicate → Type 0) (test : StartPredicate → Bool) (make : A → StartPredicate) (start other : StartPredicate) (found : Option A)
    → IsOr test make start found other → P start → ((a : A) → found ≡ Some a → test start ≡ true → P (make a)) → P other
or-keeps P test make start other found (inl e) h new = subst P (sym e) h
or-keeps P test make start other found (inr (a, is, passes, e)) h new = subst P (sym e) (new a is passes)

-- a set or a pair looks for no sequence
no-sequence : (start : StartPredicate) (bs : List ℕ) → is_set_or_pair start ≡ true → IsSequence start bs → ⊥
no-sequence (ByteSeq front) bs set h = absurd (cc)
no-sequence Arbitrary bs set h = h
no-sequence (ByteSet1 _) bs set h = h
no-sequence (ByteSet2 _) bs set h = h
no-sequence (ByteSet3 _) bs set h = h
no-sequence (ByteBracket _) bs set h = h
no-sequence (ByteNear _ _) bs set h = h
no-sequence (variant.BytePair _) bs set h = h
no-sequence (variant.WordStart _) bs set h = h
no-sequence StartAnchored bs set h = h

-- so in its place it keeps no literal
pub no-literal : (start other : StartPredicate) (t : Tree) → is_set_or_pair start ≡ true → KeepsLiteral t start → KeepsLiteral t other
no-literal start other t set h = go (first_literal t) h
  where
    go : (o : Option (List ℕ)) → IfSome o (λ bs. 2 ≤ length bs → IsSequence start bs) → IfSome o (λ bs. 2 ≤ length bs → IsSequence other bs)
    go None k = tt
    go (Some bs) k = λ long. absurd (no-sequence start bs set (k long))

pub set-passes : (start : StartPredicate) → is_set start ≡ true → is_set_or_pair start ≡ true
set-passes (ByteSet2 _) e = refl
set-passes (ByteSet3 _) e = refl
set-passes (ByteBracket _) e = refl
set-passes Arbitrary e = absurd (cc)
set-passes (ByteSet1 _) e = absurd (cc)
set-passes (ByteSeq _) e = absurd (cc)
set-passes (ByteNear _ _) e = absurd (cc)
set-passes (variant.BytePair _) e = absurd (cc)
set-passes (variant.WordStart _) e = absurd (cc)
set-passes StartAnchored e = absurd (cc)

-- nor of bytes below 0x80
pub no-ascii : (start other : StartPredicate) (t : Tree) → is_set_or_pair start ≡ true → KeepsAscii t start → KeepsAscii t other
no-ascii start other t set h = go (first_literal t) h
  where
    go : (o : Option (List ℕ)) → IfSome o (λ bs. 2 ≤ length bs → AreAscii (holds bs) → IsSequence start bs) → IfSome o (λ bs. 2 ≤ length bs → AreAscii (holds bs) → IsSequence other bs)
    go None k = tt
    go (Some bs) k = λ long low. absurd (no-sequence start bs set (k long low))

-- what is found is so
pub some-of : {A : Type 0} (P : A → Type 0) (found : Option A) → IfSome found P → (a : A) → found ≡ Some a → P a
some-of {A} P found h a is = subst (λ (o : Option A). IfSome o P) is h
