-- Keys as texts.
use Rattle.std.proofs.Common.{◌≡◌, ℕ, zero, suc, ◌<◌, Bool, true, nat_lt, List, [], ◌∷◌, ◌++◌, map, chars, refl, ◌∙◌, arith}
use Rattle.std.specs.Str.{IsAscii}
use Rattle.std.specs.List.{list_all, AllZip}
use Rattle.std.proofs.lemmas.Str.{chars-IsAscii}
use Rattle.std.proofs.lemmas.Bool.{and_parts}
use Rattle.std.proofs.lemmas.Bool.Decides.{nat_tests}
use Rattle.ucd_sets.specs.Names.{script_names, category_names as given_names}
use Rattle.ucd_sets.specs.declared.set.Set.{Set}
use Rattle.ucd_sets.specs.Sets.{in_set}
use Rattle.regress_unicode.specs.Names.{binary_names, category_names}
use Rattle.regress_unicode.specs.Keys.{unicode_keys, key_sets}
use Rattle.regress_unicode.specs.Unicode.{Hold, IsHeld}

-- the entry stands under the text of the key's bytes, and holds its set
abbrev pub IsRead : List ℕ × List (ℕ × ℕ) → List ℕ × Set → Type 0
IsRead e k = (e.0 ≡ chars k.0) × Hold e.1 (in_set k.1)

-- one more of each
pub zip-more : {A B : Type 0} (R : A → B → Type 0) (entries : List A) (keys : List B) (e : A) (k : B) → AllZip R entries keys → R e k → AllZip R (entries ++ e ∷ []) (keys ++ k ∷ [])
zip-more R [] [] e k h here = (here, tt)
zip-more R [] (l ∷ keys) e k h here = absurd h
zip-more R (d ∷ entries) [] e k h here = absurd h
zip-more R (d ∷ entries) (l ∷ keys) e k h here = (h.0, zip-more R entries keys e k h.1 here)

-- the bytes are ASCII
abbrev is_plain : List ℕ → Bool
is_plain = list_all (λ b. nat_lt b 128)

plain-below : (b : ℕ) → nat_lt b 128 ≡ true → b < 128
plain-below b h = grind (arith, nat_tests)

plain-ascii : (bs : List ℕ) → is_plain bs ≡ true → IsAscii bs
plain-ascii [] h i = omega arith
plain-ascii (b ∷ bs) h zero = plain-below b (and_parts _ _ h).0
plain-ascii (b ∷ bs) h (suc i) = plain-ascii bs (and_parts _ _ h).1 i

-- ASCII is read as it is written
pub plain-chars : (bs : List ℕ) → is_plain bs ≡ true → chars bs ≡ bs
plain-chars bs h = chars-IsAscii bs (plain-ascii bs h)

-- a key with the test of its set
abbrev tested : List ℕ × Set → List ℕ × (ℕ → Bool)
tested k = (k.0, in_set k.1)

-- ASCII keys are their bytes
read-held : (entries : List (List ℕ × List (ℕ × ℕ))) (keys : List (List ℕ × Set)) → AllZip IsRead entries keys → list_all (λ k. is_plain k.0) keys ≡ true
    → AllZip IsHeld entries (map tested keys)
read-held [] [] h plain = tt
read-held [] (k ∷ keys) h plain = absurd h
read-held (e ∷ entries) [] h plain = absurd h
read-held (e ∷ entries) (k ∷ keys) h plain =
    let parts = and_parts _ _ plain in (
      (h.0.0 ∙ plain-chars k.0 parts.0, h.0.1),
      read-held entries keys h.1 parts.1,
    )

-- the keys of Unicode's properties are ASCII
keys-plain : list_all (λ k. is_plain k.0) unicode_keys ≡ true
unfolding unicode_keys binary_names category_names script_names given_names
keys-plain = refl

pub all-held : (entries : List (List ℕ × List (ℕ × ℕ))) → AllZip IsRead entries unicode_keys → AllZip IsHeld entries key_sets
all-held entries h = read-held entries unicode_keys h keys-plain
