-- Pairs and starts of words, told of characters.
use Rattle.std.proofs.Common.{◌≡◌, ◌≢◌, ℕ, zero, suc, ◌<◌, Bool, true, List, [], ◌∷◌, drop, slice_get, Option, Some, None, All, encode_utf8_all, refl, sym, ap, ◌∙◌, subst, arith}
use Rattle.std.proofs.lemmas.List.Elements.{All-head, All-drop}
use Rattle.regress_meaning.specs.Class.{is_ascii_word}
use Rattle.regress_meaning.specs.TableParts.{is_code_point}
use Rattle.regress_meaning.specs.Meaning.{Forward, Context, State, is_some_and, before, after}
use Rattle.regress_front_bytes.specs.declared.bitmaps.ByteBitmap.{ByteBitmap}
use Rattle.regress_front_bytes.specs.Bitmaps.{byte_bitmap_contains}
use Rattle.regress_front_nodes.specs.Trees.{Tree}
use Rattle.regress_front_nodes.specs.TreeMeaning.{node_outcomes}
use Rattle.regress_engine_scanning.specs.NibbleSets.{nibble_set_contains}
use Rattle.regress_engine_scanning.specs.Units.{AreAscii}
use Rattle.regress_engine_scanning.specs.WordStarts.{passes_before}
use Rattle.regress_engine_scanning.specs.declared.byte_pair.BytePair.{BytePair}
use Rattle.regress_engine_scanning.specs.declared.word_start.WordStart.{WordStart}
use Rattle.regress_engine_scanning.proofs.PairMarks.{pair-both}
use Rattle.regress_engine_scanning.proofs.WordMarks.{word-all}
use Rattle.regress_engine_prefix.specs.Choosing.{TellsPair}
use Rattle.regress_engine_prefix.specs.WordEdges.{AsksBoundary, AreOfWords}
use Rattle.regress_engine_prefix.specs.Prefixes.{IsWeaker, Foretells}
use Rattle.regress_engine_prefix.specs.Starts.{BeginsCharacters}
use Rattle.regress_engine_prefix.specs.declared.prefix.Prefix.{Prefix}
use Rattle.regress_engine_prefix.specs.declared.prefix.Prefix.TheVariants.{Still, Unknown, Start, Bytes, First, Pair}
use Rattle.regress_engine_prefix.specs.declared.start.StartPredicate.TheVariants as variant
use Rattle.regress_engine_prefix.proofs.StartLemmas.{slice_get-drop, some-holds}
use Rattle.regress_engine_prefix.proofs.PairLemmas.{same-points}
use Rattle.regress_engine_prefix.proofs.UnitLemmas.{low-first}
use Rattle.regress_engine_prefix.proofs.WordLemmas.{no-word_before}

-- where a pair is foretold, the characters begin so
pub pair-characters : (pair : BytePair) (prefix : Prefix) (t : Tree) → TellsPair pair prefix → Foretells prefix t → BeginsCharacters (variant.BytePair pair) t
pair-characters pair (Pair first second) t tells told = record {
  each = λ context points s some.
      let cs = drop s.place context.text in
      let valid = All-drop is_code_point s.place context.text points in
      let held = some-holds (Pair first second) context s (node_outcomes context t Forward s) some (told.each context points s) in
      pair-both pair (encode_utf8_all cs) 0 (same-points cs valid 0 (nibble_set_contains pair.first) (byte_bitmap_contains first) tells.0 ∙ held.1.0)
      (same-points cs valid 1 (nibble_set_contains pair.second) (byte_bitmap_contains second) tells.1 ∙ held.1.1);
  near = λ context points s some. tt;
  apart = λ context points s some. tt;
}
pair-characters pair Still t tells told = absurd tells
pair-characters pair Unknown t tells told = absurd tells
pair-characters pair Start t tells told = absurd tells
pair-characters pair (Bytes _) t tells told = absurd tells
pair-characters pair (First _) t tells told = absurd tells

-- where a byte of a word is first, a character of a word is
word-point : (text : List ℕ) (p : ℕ) → All is_code_point text → (test : ℕ → Bool) → AreAscii test → ((b : ℕ) → test b ≡ true → is_ascii_word b ≡ true)
    → is_some_and (slice_get (encode_utf8_all (drop p text)) 0) test ≡ true → is_some_and (slice_get text p) is_ascii_word ≡ true
word-point text p points test low words h = by_rest (drop p text) refl (All-drop is_code_point p text points) h
  where
    by_byte : (c : ℕ) (cs : List ℕ) → drop p text ≡ c ∷ cs → is_code_point c → (o : Option ℕ) → slice_get (encode_utf8_all (c ∷ cs)) 0 ≡ o → is_some_and o test ≡ true
        → is_some_and (slice_get text p) is_ascii_word ≡ true
    by_byte c cs rest point None is passes = absurd (cc)
    by_byte c cs rest point (Some b) is passes =
        let same = (low-first c cs b point is (low b passes)).0 in
        let there : slice_get text p ≡ Some c = sym (slice_get-drop text p) ∙ ap (λ xs. slice_get xs 0) rest in
        rw there (subst (λ n. is_ascii_word n ≡ true) (sym same) (words b passes))

    by_rest : (cs : List ℕ) → drop p text ≡ cs → All is_code_point cs → is_some_and (slice_get (encode_utf8_all cs) 0) test ≡ true
        → is_some_and (slice_get text p) is_ascii_word ≡ true
    by_rest [] rest all passes = absurd (cc)
    by_rest (c ∷ cs) rest all passes = by_byte c cs rest (All-head is_code_point c cs all) (slice_get (encode_utf8_all (c ∷ cs)) 0) refl passes

-- and so is one in front
word-front : (context : Context) (p : ℕ) (test : ℕ → Bool) → ((b : ℕ) → test b ≡ true → is_ascii_word b ≡ true) → passes_before test context.text p ≡ true
    → is_some_and (before context p) is_ascii_word ≡ true
word-front context zero test words h = absurd (cc)
word-front context (suc p) test words h = by_point (slice_get context.text p) refl h
  where
    by_point : (o : Option ℕ) → slice_get context.text p ≡ o → is_some_and o test ≡ true → is_some_and (slice_get context.text p) is_ascii_word ≡ true
    by_point None e passes = absurd (cc)
    by_point (Some c) e passes = rw e (words c passes)

-- where matches begin words, the characters begin so
pub word-characters : (word : WordStart) (first : ByteBitmap) (t : Tree) → AreAscii (nibble_set_contains word.word) → AreAscii (nibble_set_contains word.first)
    → ((b : ℕ) → b < 256 → nibble_set_contains word.first b ≡ byte_bitmap_contains first b) → AreOfWords (byte_bitmap_contains first) → AreOfWords (nibble_set_contains word.word)
    → (prefix : Prefix) → IsWeaker (First first) prefix → Foretells prefix t → AsksBoundary t → BeginsCharacters (variant.WordStart word) t
word-characters word first t low-words low firsts are front prefix weaker told asks = record {
  each = λ context points s some. word-all word (encode_utf8_all (drop s.place context.text)) 0 (begins context points s some) (λ h. absurd (cc h));
  near = λ context points s some. tt;
  apart = λ context points s some h.
      let asked = asks.each context s some in
      no-word_before context.table asked.0 (before context s.place) (after context s.place) asked.1
      (word-point context.text s.place points (nibble_set_contains word.first) low (λ b e. are b (small low b e) (sym (firsts b (small low b e)) ∙ e)) (begins context points s some))
      (word-front context s.place (nibble_set_contains word.word) (λ b e. front b (small low-words b e) e) h);
}
  where
    small : {test : ℕ → Bool} → AreAscii test → (b : ℕ) → test b ≡ true → b < 256
    small {test} ascii b e = let less = ascii b e in omega (arith, less)

    begins : (context : Context) → All is_code_point context.text → (s : State) → node_outcomes context t Forward s ≢ []
        → is_some_and (slice_get (encode_utf8_all (drop s.place context.text)) 0) (nibble_set_contains word.first) ≡ true
    begins context points s some =
        let cs = drop s.place context.text in
        let held = some-holds prefix context s (node_outcomes context t Forward s) some (told.each context points s) in
        same-points cs (All-drop is_code_point s.place context.text points) 0 (nibble_set_contains word.first) (byte_bitmap_contains first) firsts
        ∙ weaker s.place (encode_utf8_all cs) held.0 held.1
