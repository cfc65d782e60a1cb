-- Where words begin.
use Rattle.std.specs.Prelude.{encode_utf8, nat_lt, ◌/◌, ◌%◌}
use Rattle.std.proofs.Common.{◌≡◌, ◌≢◌, ℕ, zero, suc, ◌+◌, ◌-◌, ◌<◌, ◌≤◌, inl, Bool, true, false, not, ◌&&◌, List, [], ◌∷◌, ◌++◌, length, take, drop, get_or, map, slice_get, cond, Option, Some, None, All, encode_utf8_all, refl, sym, ap, subst, ◌∙◌, arith, lt-ltb}
use Rattle.std.specs.List.{flat_map}
use Rattle.std.specs.Str.{chars, IsUtf8}
use Rattle.std.proofs.Math.Utf8.{encode}
use Rattle.std.proofs.lemmas.Bool.{ltb-true, true≢false}
use Rattle.std.proofs.lemmas.Bool.Decides.{nat_tests}
use Rattle.std.proofs.lemmas.Option.{slice_get-get_or}
use Rattle.std.proofs.lemmas.List.{take_more, length-append}
use Rattle.std.proofs.lemmas.List.Elements.{All-head, All-drop}
use Rattle.std.proofs.lemmas.Str.{encodes-append, encodes-chars, encode_ascii, length-encode, len_utf8_bounds}
use Rattle.regress_meaning.specs.Class.{is_ascii_word, is_word}
use Rattle.regress_meaning.specs.Table.{Table}
use Rattle.regress_meaning.specs.TableParts.{is_code_point}
use Rattle.regress_meaning.specs.Offsets.{of_utf8, offset}
use Rattle.regress_meaning.specs.Meaning.{State, Forward, Context, is_some_and, keep_if, word_at, differ, before, after}
use Rattle.regress_front_bytes.specs.declared.bitmaps.ByteBitmap.{ByteBitmap}
use Rattle.regress_front_bytes.specs.Bitmaps.{byte_bitmap_contains}
use Rattle.regress_front_bytes.proofs.TextLemmas.{length-encodes, chars-code_points}
use Rattle.regress_front_sets.proofs.FirstByteLemmas.{lead}
use Rattle.regress_front_nodes.specs.Trees.{Tree, tree, boundary, cat, cat_of}
use Rattle.regress_front_nodes.specs.declared.node.Node.{Node}
use Rattle.regress_front_nodes.specs.TreeMeaning.{node_outcomes}
use Rattle.regress_engine_scanning.specs.NibbleSets.{nibble_set_contains}
use Rattle.regress_engine_scanning.specs.WordStarts.{passes_before}
use Rattle.regress_engine_prefix.specs.WordEdges.{AsksBoundary, AreOfWords}
use Rattle.regress_engine_scanning.specs.declared.word_start.WordStart.{WordStart}
use Rattle.regress_engine_prefix.proofs.LeadLemmas.{has-lead}
use Rattle.regress_engine_scanning.proofs.LandmarkLemmas.{both-parts}
use Rattle.regress_engine_prefix.specs.Prefixes.{IsWeaker, Foretells}
use Rattle.regress_engine_prefix.specs.Starts.{IsStartOf, HitsBoundaries}
use Rattle.regress_engine_prefix.specs.declared.prefix.Prefix.{Prefix}
use Rattle.regress_engine_prefix.specs.declared.prefix.Prefix.TheVariants.{First}
use Rattle.regress_engine_prefix.specs.declared.start.StartPredicate.TheVariants as variant
use Rattle.regress_engine_scanning.proofs.ByteLemmas.{is-there}
use Rattle.regress_engine_prefix.proofs.PrefixLemmas.{slice_get-front}
use Rattle.regress_engine_prefix.proofs.StartLemmas.{test-boundary, slice_get-drop, rest-of-text, offset-start, some-holds}
use Rattle.regress_engine_prefix.proofs.ReachLemmas.{low-lead, front-get, whole-text, one-char}
use Rattle.regress_engine_prefix.proofs.PairLemmas.{is_small, utf8-small, same-there}
use Rattle.regress_engine_scanning.proofs.WordMarks.{before-at, word-parts, word-all}

-- ---- what asks for a boundary

keeps-some : (b : Bool) (s : State) → keep_if b s ≢ [] → b ≡ true
keeps-some true s h = refl
keeps-some false s h = absurd (h refl)

pub asks-boundary : (folded : Bool) → AsksBoundary (boundary false folded)
unfolding node_outcomes
asks-boundary folded = record { each = λ context s some. (folded, keeps-some _ s some) }

pub asks-cat : (a b : Tree) → AsksBoundary a → AsksBoundary (cat a b)
unfolding node_outcomes
asks-cat a b asks = record { each = λ context s some. asks.each context s (λ none. some (ap (flat_map (node_outcomes context b Forward)) none)) }

pub asks-not_inverted : (inverted folded : Bool) → not inverted ≡ true → AsksBoundary (boundary inverted folded)
asks-not_inverted false folded e = asks-boundary folded
asks-not_inverted true folded e = absurd (cc)

pub asks-parts : (ns : List Node) (part : Node) → slice_get ns 0 ≡ Some part → AsksBoundary (tree part) → AsksBoundary (cat_of (map tree ns))
asks-parts [] part e asks = absurd (cc)
asks-parts (n ∷ ns) part e asks = let same : part ≡ n = cc in asks-cat (tree n) (cat_of (map tree ns)) (subst (λ m. AsksBoundary (tree m)) same asks)

-- ---- words in bytes

word-low : (b : ℕ) → is_ascii_word b ≡ true → b < 128
word-low b e = grind (arith, nat_tests)

ascii-word : (table : Table) (folded : Bool) (o : Option ℕ) → is_some_and o is_ascii_word ≡ true → word_at table folded o ≡ true
unfolding is_word
ascii-word table folded None e = absurd (cc)
ascii-word table folded (Some c) e = rw e refl

-- at a boundary in front of a word no word is before it
pub no-word_before : (table : Table) (folded : Bool) (a b : Option ℕ) → differ table folded a b ≡ true → is_some_and b is_ascii_word ≡ true → is_some_and a is_ascii_word ≡ true → ⊥
no-word_before table folded a b d after before =
    let one = ascii-word table folded a before in
    let other = ascii-word table folded b after in
    true≢false (sym (rw (one, other) at d))

-- the last byte of a character, where it is ASCII, is the character
last-ascii : (d m b : ℕ) → slice_get (encode d) m ≡ Some b → suc m ≡ length (encode d) → b < 128 → d ≡ b
unfolding encode
last-ascii d m b e end low = go (nat_lt d 128) (nat_lt d 2048) (nat_lt d 65536) e end
  where
    byte-at : (xs : List ℕ) (n x : ℕ) → m ≡ n → slice_get xs m ≡ Some b → slice_get xs n ≡ Some x → x ≡ b
    byte-at xs n x same at is = let both : Some x ≡ Some b = sym is ∙ ap (slice_get xs) (sym same) ∙ at in cc

    go : (one two three : Bool) → (let bytes : List ℕ = cond one (d ∷ []) (cond two ((192 + d / 64) ∷ (128 + d % 64) ∷ [])
        (cond three ((224 + d / 4096) ∷ (128 + (d / 64) % 64) ∷ (128 + d % 64) ∷ []) ((240 + d / 262144) ∷ (128 + (d / 4096) % 64) ∷ (128 + (d / 64) % 64) ∷ (128 + d % 64) ∷ []))) in
        slice_get bytes m ≡ Some b → suc m ≡ length bytes → d ≡ b)
    go true two three at size = byte-at (d ∷ []) 0 d (omega (arith, size)) at refl
    go false true three at size =
        let is = byte-at ((192 + d / 64) ∷ (128 + d % 64) ∷ []) 1 (128 + d % 64) (omega (arith, size)) at refl in absurd (omega (arith, is, low))
    go false false true at size =
        let is = byte-at ((224 + d / 4096) ∷ (128 + (d / 64) % 64) ∷ (128 + d % 64) ∷ []) 2 (128 + d % 64) (omega (arith, size)) at refl in absurd (omega (arith, is, low))
    go false false false at size =
        let is = byte-at ((240 + d / 262144) ∷ (128 + (d / 4096) % 64) ∷ (128 + (d / 64) % 64) ∷ (128 + d % 64) ∷ []) 3 (128 + d % 64) (omega (arith, size)) at refl in
        absurd (omega (arith, is, low))

append-left : (xs ys : List ℕ) (n : ℕ) → n < length xs → slice_get (xs ++ ys) n ≡ slice_get xs n
append-left [] ys n l = absurd (omega arith)
append-left (x ∷ xs) ys zero l = refl
append-left (x ∷ xs) ys (suc n) l = append-left xs ys n (omega arith)

-- where a byte of a word stands at the offset of a place, a word character is behind the place
word-after : (bytes : List ℕ) → IsUtf8 bytes → (p : ℕ) (test : ℕ → Bool) → ((b : ℕ) → test b ≡ true → is_ascii_word b ≡ true)
    → is_some_and (slice_get bytes (offset (of_utf8 bytes) p)) test ≡ true → is_some_and (slice_get (chars bytes) p) is_ascii_word ≡ true
word-after bytes utf8 p test words h =
    go (drop p (chars bytes)) refl (All-drop is_code_point p (chars bytes) (chars-code_points bytes utf8))
    (sym (ap (λ (o : Option ℕ). is_some_and o test) (sym (slice_get-drop bytes (offset (of_utf8 bytes) p)) ∙ ap (λ xs. slice_get xs 0) (rest-of-text bytes utf8 p))) ∙ h)
  where
    go : (rest : List ℕ) → drop p (chars bytes) ≡ rest → All is_code_point rest → is_some_and (slice_get (encode_utf8_all rest) 0) test ≡ true
        → is_some_and (slice_get (chars bytes) p) is_ascii_word ≡ true
    go [] e points h = absurd (cc)
    go (c ∷ rest) e points h =
        let begins : slice_get (encode_utf8_all (c ∷ rest)) 0 ≡ Some (lead c) = slice_get-front (encode_utf8 c) (encode_utf8_all rest) (lead c) (has-lead c) in
        let passes : test (lead c) ≡ true = sym (ap (λ (o : Option ℕ). is_some_and o test) begins) ∙ h in
        let word = words (lead c) passes in
        let low : c < 128 = low-lead c (All-head is_code_point c rest points) (word-low (lead c) word) in
        let same : Some (lead c) ≡ Some c = sym (has-lead c) ∙ ap (λ xs. slice_get xs 0) (encode_ascii c low) in
        let equal : lead c ≡ c = cc in
        let there : slice_get (chars bytes) p ≡ Some c = sym (slice_get-drop (chars bytes) p) ∙ ap (λ xs. slice_get xs 0) e in
        rw there (subst (λ n. is_ascii_word n ≡ true) equal word)

-- and where one stands before the offset, one is before the place
word-before : (context : Context) (bytes : List ℕ) → IsUtf8 bytes → context.text ≡ chars bytes → (p : ℕ) → p < length (chars bytes) → (test : ℕ → Bool)
    → ((b : ℕ) → test b ≡ true → is_ascii_word b ≡ true) → passes_before test bytes (offset (of_utf8 bytes) p) ≡ true → is_some_and (before context p) is_ascii_word ≡ true
word-before context bytes utf8 same zero room test words h = absurd (true≢false (sym h ∙ ap (passes_before test bytes) (offset-start bytes 0 refl)))
word-before context bytes utf8 same (suc q) room test words h =
    let cs = chars bytes in
    let d = get_or cs q 0 in
    let front = encode_utf8_all (take q cs) in
    let at = offset (of_utf8 bytes) (suc q) in
    let suc-is : suc q ≡ q + 1 = omega arith in
    let cut : encode_utf8_all (take (suc q) cs) ≡ front ++ encode_utf8 d =
    ap (λ k. encode_utf8_all (take k cs)) suc-is ∙ ap encode_utf8_all (take_more cs q 0 (omega (arith, room))) ∙ encodes-append (take q cs) (d ∷ []) ∙ ap (λ xs. front ++ xs) (one-char d) in
    let long : length (encode_utf8_all (take (suc q) cs)) ≡ length front + length (encode_utf8 d) = ap length cut ∙ length-append front (encode_utf8 d) in
    let size : length (encode_utf8_all (take (suc q) cs)) ≡ at = length-encodes (take (suc q) cs) in
    let some : 0 < length (encode_utf8 d) = let e = length-encode d in let b = (len_utf8_bounds d).0 in omega (arith, e, b) in
    let m = length (encode_utf8 d) - 1 in
    let place : at - 1 ≡ length front + m = omega (arith, long, size, some) in
    let there : slice_get bytes (at - 1) ≡ slice_get (encode_utf8 d) m =
    ap (λ xs. slice_get xs (at - 1)) (sym (encodes-chars bytes utf8) ∙ whole-text cs (suc q))
    ∙ append-left (encode_utf8_all (take (suc q) cs)) (encode_utf8_all (drop (suc q) cs)) (at - 1) (omega (arith, long, size, some))
    ∙ ap (λ xs. slice_get xs (at - 1)) cut ∙ ap (slice_get (front ++ encode_utf8 d)) place ∙ front-get front (encode_utf8 d) m in
    let passes : is_some_and (slice_get (encode_utf8 d) m) test ≡ true =
    sym (ap (λ (o : Option ℕ). is_some_and o test) there) ∙ sym (before-at test bytes at (omega (arith, long, size, some))) ∙ h in
    let behind : slice_get context.text q ≡ Some d = ap (λ xs. slice_get xs q) same ∙ slice_get-get_or cs q 0 (omega (arith, room)) in
    rw behind (go d m (omega (arith, some)) (slice_get (encode_utf8 d) m) refl passes)
  where
    go : (d m : ℕ) → suc m ≡ length (encode_utf8 d) → (o : Option ℕ) → slice_get (encode_utf8 d) m ≡ o → is_some_and o test ≡ true → is_ascii_word d ≡ true
    go d m end None e h = absurd (cc)
    go d m end (Some b) e h = let word = words b h in subst (λ n. is_ascii_word n ≡ true) (sym (last-ascii d m b e end (word-low b word))) word

-- ---- where matches begin

-- what passes in UTF-8 is a byte
is-small : (bytes : List ℕ) → IsUtf8 bytes → (at : ℕ) (test : ℕ → Bool) → is_some_and (slice_get bytes at) test ≡ true → is_some_and (slice_get bytes at) (λ b. is_small b && test b) ≡ true
is-small bytes utf8 at test h = go (slice_get bytes at) refl h
  where
    go : (o : Option ℕ) → slice_get bytes at ≡ o → is_some_and o test ≡ true → is_some_and o (λ b. is_small b && test b) ≡ true
    go None e h = absurd (cc)
    go (Some b) e h = rw (lt-ltb b 256 (utf8-small bytes utf8 at b e), h) refl

small-before : (bytes : List ℕ) → IsUtf8 bytes → (at : ℕ) (test : ℕ → Bool) → passes_before test bytes at ≡ true → passes_before (λ b. is_small b && test b) bytes at ≡ true
small-before bytes utf8 zero test h = absurd (cc)
small-before bytes utf8 (suc at) test h = is-small bytes utf8 at test h

module _ (word : WordStart) (first : ByteBitmap) (t : Tree)
    (firsts : (b : ℕ) → b < 256 → nibble_set_contains word.first b ≡ byte_bitmap_contains first b) (words : AreOfWords (byte_bitmap_contains first)) (front : AreOfWords (nibble_set_contains word.word))
    (prefix : Prefix) (weaker : IsWeaker (First first) prefix) (told : Foretells prefix t) where
  pub word-start : AsksBoundary t → IsStartOf (variant.WordStart word) t
  word-start asks = record {
    each = λ bytes utf8 context same s some.
        let points = subst (All (λ c. c ≤ 0x10_FFFF)) (sym same) (chars-code_points bytes utf8) in
        let held = some-holds prefix context s (node_outcomes context t Forward s) some (told.each context points s) in
        let at = offset (of_utf8 bytes) s.place in
        let rest : encode_utf8_all (drop s.place context.text) ≡ drop at bytes = ap (λ text. encode_utf8_all (drop s.place text)) same ∙ sym (rest-of-text bytes utf8 s.place) in
        let here : is_some_and (slice_get bytes at) (byte_bitmap_contains first) ≡ true =
        sym (ap (λ (o : Option ℕ). is_some_and o (byte_bitmap_contains first)) (slice_get-drop bytes at))
        ∙ subst (λ xs. is_some_and (slice_get xs 0) (byte_bitmap_contains first) ≡ true) rest (weaker s.place (encode_utf8_all (drop s.place context.text)) held.0 held.1) in
        let small-here = is-small bytes utf8 at (byte_bitmap_contains first) here in
        let after-is = word-after bytes utf8 s.place (λ b. is_small b && byte_bitmap_contains first b) (λ b e. let both = both-parts (is_small b) (byte_bitmap_contains first b) e in words b (ltb-true b 256 both.0) both.1) small-here in
        let asked = asks.each context s some in
        word-all word bytes at (same-there bytes utf8 at (nibble_set_contains word.first) (byte_bitmap_contains first) firsts ∙ here)
        (λ before-is. no-word_before context.table asked.0 (before context s.place) (after context s.place) asked.1
        (ap (λ xs. is_some_and (slice_get xs s.place) is_ascii_word) same ∙ after-is)
        (word-before context bytes utf8 same s.place (is-there is_ascii_word (chars bytes) s.place after-is) (λ b. is_small b && nibble_set_contains word.word b)
        (λ b e. let both = both-parts (is_small b) (nibble_set_contains word.word b) e in front b (ltb-true b 256 both.0) both.1)
        (small-before bytes utf8 at (nibble_set_contains word.word) before-is)));
  }

  pub word-boundary : HitsBoundaries (variant.WordStart word)
  word-boundary known bytes utf8 at begins =
      test-boundary bytes at (λ b. is_small b && byte_bitmap_contains first b)
      (λ b e. let both = both-parts (is_small b) (byte_bitmap_contains first b) e in inl (word-low b (words b (ltb-true b 256 both.0) both.1)))
      (is-small bytes utf8 at (byte_bitmap_contains first)
      (sym (same-there bytes utf8 at (nibble_set_contains word.first) (byte_bitmap_contains first) firsts) ∙ (word-parts word bytes at begins).0))
