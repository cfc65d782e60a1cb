-- An escaped text, character by character, and read back from its bytes.
use Rattle.std.proofs.Common.{◌≡◌, ℕ, Bool, true, false, ◌&&◌, List, [], ◌∷◌, ◌++◌, if◌then◌else◌, refl, ap}
use Rattle.std.proofs.lemmas.Bool.{and_parts, and_from}
use Rattle.std.proofs.lemmas.Str.{scalars-chars, chars-encodes}
use lib.Utf8.{scalar}
use Rattle.std.specs.Str.{chars, encode_utf8_all, all_scalars, IsUtf8}
use Rattle.regress_meaning.specs.Literal.{is_syntax_character, escaped_text}

-- the escaped text of two texts, one behind the other
pub escaped-append : (cs ds : List ℕ) → escaped_text (cs ++ ds) ≡ escaped_text cs ++ escaped_text ds
unfolding escaped_text
escaped-append [] ds = refl
escaped-append (c ∷ cs) ds = go (is_syntax_character c) (escaped-append cs ds)
  where
    go : (b : Bool) → escaped_text (cs ++ ds) ≡ escaped_text cs ++ escaped_text ds
        → (if b then 0x5C ∷ c ∷ escaped_text (cs ++ ds) else c ∷ escaped_text (cs ++ ds))
        ≡ (if b then 0x5C ∷ c ∷ escaped_text cs else c ∷ escaped_text cs) ++ escaped_text ds
    go true e = ap (λ (t : List ℕ). 0x5C ∷ c ∷ t) e
    go false e = ap (λ (t : List ℕ). c ∷ t) e

-- an escaped text of characters is one
scalars-escaped : (cs : List ℕ) → all_scalars cs ≡ true → all_scalars (escaped_text cs) ≡ true
unfolding escaped_text
scalars-escaped [] e = refl
scalars-escaped (c ∷ cs) e =
    let parts = and_parts (scalar c) (all_scalars cs) e in
    go (is_syntax_character c) (and_from (scalar c) (all_scalars (escaped_text cs)) parts.0 (scalars-escaped cs parts.1))
  where
    go : (b : Bool) → (scalar c && all_scalars (escaped_text cs)) ≡ true
        → all_scalars (if b then 0x5C ∷ c ∷ escaped_text cs else c ∷ escaped_text cs) ≡ true
    go true h = h
    go false h = h

-- the bytes of an escaped text are read as that text
pub escaped-read_back : (bytes : List ℕ) → IsUtf8 bytes → chars (encode_utf8_all (escaped_text (chars bytes))) ≡ escaped_text (chars bytes)
escaped-read_back bytes utf8 = chars-encodes (escaped_text (chars bytes)) (scalars-escaped (chars bytes) (scalars-chars bytes utf8))

-- the escaped text of one character
pub escaped-syntax : (c : ℕ) → is_syntax_character c ≡ true → escaped_text (c ∷ []) ≡ 0x5C ∷ c ∷ []
unfolding escaped_text
escaped-syntax c e = ap (λ (b : Bool). if b then 0x5C ∷ c ∷ [] else c ∷ []) e

pub escaped-plain : (c : ℕ) → is_syntax_character c ≡ false → escaped_text (c ∷ []) ≡ c ∷ []
unfolding escaped_text
escaped-plain c e = ap (λ (b : Bool). if b then 0x5C ∷ c ∷ [] else c ∷ []) e
