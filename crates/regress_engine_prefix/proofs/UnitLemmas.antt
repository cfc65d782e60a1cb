-- What start predicates say of characters, where each byte that they tell is below 0x80.
use Rattle.std.proofs.Common.{◌≡◌, ◌⊎◌, inl, inr, ℕ, ◌<◌, ◌≤◌, false, List, [], ◌∷◌, ◌++◌, length, drop, slice_get, Option, Some, None, IfSome, encode_utf8_all, refl, sym, ap, subst, arith}
use Rattle.std.specs.Prelude.{encode_utf8}
use Rattle.std.proofs.lemmas.Str.{encode_ascii}
use Rattle.regress_meaning.specs.TableParts.{is_code_point}
use Rattle.regress_meaning.specs.Text.{holds}
use Rattle.regress_meaning.specs.Meaning.{Forward}
use Rattle.regress_front_sets.proofs.FirstByteLemmas.{lead}
use Rattle.regress_front_nodes.specs.Trees.{Tree}
use Rattle.regress_front_nodes.specs.TreeMeaning.{node_outcomes}
use Rattle.regress_engine_prefix.specs.Prefixes.{first_literal, HasBytes, Foretells}
use Rattle.regress_engine_scanning.specs.Units.{AreAscii}
use Rattle.regress_engine_prefix.specs.Starts.{AreNear, IsApart, tells_beside, SaysNoMore, IsSequence, KeepsSequence, IsPlain, KeepsAscii, BeginsCharacters}
use Rattle.regress_engine_prefix.specs.declared.prefix.Prefix.{Prefix}
use Rattle.regress_engine_prefix.specs.declared.start.StartPredicate.{StartPredicate}
use Rattle.regress_engine_prefix.specs.declared.start.StartPredicate.TheVariants.{Arbitrary, ByteSet1, ByteSet2, ByteSet3, ByteSeq, ByteBracket, ByteNear, StartAnchored}
use Rattle.regress_engine_prefix.specs.declared.start.StartPredicate.TheVariants as variant
use Rattle.regress_engine_prefix.proofs.LeadLemmas.{has-lead}
use Rattle.regress_engine_prefix.proofs.ReachLemmas.{low-lead}
use Rattle.regress_engine_prefix.proofs.StartLemmas.{some-holds}

-- ---- from prefixes to characters

-- where no landmark is told nothing is told of characters up to its byte
no-landmark : (start : StartPredicate) → tells_beside start ≡ false → (points : List ℕ) → AreNear start points
no-landmark Arbitrary none points = tt
no-landmark (ByteSet1 set) none points = tt
no-landmark (ByteSet2 set) none points = tt
no-landmark (ByteSet3 set) none points = tt
no-landmark (ByteSeq front) none points = tt
no-landmark (ByteBracket set) none points = tt
no-landmark (ByteNear set landmark) none points = absurd (cc none)
no-landmark (variant.BytePair pair) none points = tt
no-landmark (variant.WordStart word) none points = tt
no-landmark StartAnchored none points = tt

-- and where it tells bytes by themselves, nothing is told of what stands in front
no-word : (start : StartPredicate) → tells_beside start ≡ false → (points : List ℕ) (place : ℕ) → IsApart start points place
no-word Arbitrary none points place = tt
no-word (ByteSet1 set) none points place = tt
no-word (ByteSet2 set) none points place = tt
no-word (ByteSet3 set) none points place = tt
no-word (ByteSeq front) none points place = tt
no-word (ByteBracket set) none points place = tt
no-word (ByteNear set landmark) none points place = tt
no-word (variant.BytePair pair) none points place = tt
no-word (variant.WordStart word) none points place = absurd (cc none)
no-word StartAnchored none points place = tt

-- what is foretold of a tree is so of the characters of each text
pub begins-characters : (start : StartPredicate) (prefix : Prefix) (t : Tree) → SaysNoMore start prefix → Foretells prefix t → tells_beside start ≡ false → BeginsCharacters start t
begins-characters start prefix t says told none = record {
  each = λ context points s some.
      let held = some-holds prefix context s (node_outcomes context t Forward s) some (told.each context points s) in
      says s.place (encode_utf8_all (drop s.place context.text)) 0 held.0 (λ e. refl) held.1;
  near = λ context points s some. no-landmark start none (drop s.place context.text);
  apart = λ context points s some. no-word start none context.text s.place;
}

-- what holds of a predicate and of the one that says nothing holds of either
pub of-either : (P : StartPredicate → Type 0) (start result : StartPredicate) → P start → P Arbitrary → (result ≡ start) ⊎ (result ≡ Arbitrary) → P result
of-either P start result h none (inl same) = subst P (sym same) h
of-either P start result h none (inr other) = subst P (sym other) none

-- a literal of bytes below 0x80 is looked for in units too
pub keeps-ascii : (start result : StartPredicate) (prefix : Prefix) (t : Tree) → KeepsSequence prefix start → Foretells prefix t → (IsPlain start → result ≡ start) → KeepsAscii t result
keeps-ascii start result prefix t keeps told kept = by_literal (first_literal t) told.spelled
  where
    is-plain : (p : StartPredicate) (bs : List ℕ) → IsSequence p bs → AreAscii (holds bs) → IsPlain p
    is-plain (ByteSeq front) bs e low = subst (λ (xs : List ℕ). AreAscii (holds xs)) (sym e) low
    is-plain Arbitrary bs e low = absurd e
    is-plain (ByteSet1 _) bs e low = absurd e
    is-plain (ByteSet2 _) bs e low = absurd e
    is-plain (ByteSet3 _) bs e low = absurd e
    is-plain (ByteBracket _) bs e low = absurd e
    is-plain (ByteNear _ _) bs e low = absurd e
    is-plain (variant.BytePair _) bs e low = absurd e
    is-plain (variant.WordStart _) bs e low = absurd e
    is-plain StartAnchored bs e low = absurd e

    by_literal : (o : Option (List ℕ)) → IfSome o (HasBytes prefix) → IfSome o (λ bs. 2 ≤ length bs → AreAscii (holds bs) → IsSequence result bs)
    by_literal None h = tt
    by_literal (Some bs) h = λ long low.
        let there = keeps bs h long in subst (λ p. IsSequence p bs) (sym (kept (is-plain start bs there low))) there

-- ---- bytes below 0x80

front-found : (xs ys : List ℕ) (b : ℕ) → slice_get xs 0 ≡ Some b → slice_get (xs ++ ys) 0 ≡ Some b
front-found [] ys b e = absurd (cc)
front-found (x ∷ xs) ys b e = e

-- a character that begins with one is that byte alone
pub low-first : (c : ℕ) (cs : List ℕ) (b : ℕ) → is_code_point c → slice_get (encode_utf8_all (c ∷ cs)) 0 ≡ Some b → b < 0x80
    → (c ≡ b) × (encode_utf8_all (c ∷ cs) ≡ c ∷ encode_utf8_all cs)
low-first c cs b point e low =
    let begins : slice_get (encode_utf8_all (c ∷ cs)) 0 ≡ Some (lead c) = front-found (encode_utf8 c) (encode_utf8_all cs) (lead c) (has-lead c) in
    let same : lead c ≡ b = cc in
    let small : c < 128 = low-lead c point (omega (arith, same, low)) in
    let whole : encode_utf8_all (c ∷ cs) ≡ c ∷ encode_utf8_all cs = ap (λ (xs : List ℕ). xs ++ encode_utf8_all cs) (encode_ascii c small) in
    let first : slice_get (encode_utf8_all (c ∷ cs)) 0 ≡ Some c = ap (λ (xs : List ℕ). slice_get xs 0) whole in
    (cc, whole)
