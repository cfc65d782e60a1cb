-- The first entry with a key, searched for by the bytes of the keys.
use Rattle.std.proofs.Common.{◌≡◌, ℕ, Bool, true, false, cond, List, [], ◌∷◌, map, Bor, Option, None, Some, option_copied, String, string_bytes, nat_eq, refl, sym, ap, ◌∙◌}
use Rattle.std.specs.List.{find}
use Rattle.std.specs.Option.{option_map}
use Rattle.std.specs.Str.{IsUtf8, chars}
use Rattle.std.proofs.lemmas.Str.{encodes-chars, IsUtf8-string_bytes}
use Rattle.std.proofs.lemmas.Slice.Eq.{slice_eq-Decides}
use Rattle.std.proofs.lemmas.Bool.Decides.{Decides-eqb, same_from_decides}
use Rattle.std.proofs.Math.Utf8.{encodes}
use lib.Pointwise.{pointwise}
use Rattle.regress_meaning.specs.Text.{same_text}
use Rattle.regress_meaning.specs.TableParts.{entry}
use Rattle.regress_front_tables.specs.Entries.{entry_of}

-- two texts have the same code points where they have the same bytes
pub same_text-chars : (a b : List ℕ) → IsUtf8 a → IsUtf8 b → same_text (chars b) (chars a) ≡ pointwise nat_eq a b
same_text-chars a b a_text b_text =
    let points = slice_eq-Decides Decides-eqb (chars b) (chars a) (same_text (chars b) (chars a)) refl in
    let bytes = slice_eq-Decides Decides-eqb a b (pointwise nat_eq a b) refl in
    same_from_decides _ _
    (λ e. sym (encodes-chars a a_text) ∙ ap encodes (sym (points.0 e)) ∙ encodes-chars b b_text, λ e. points.1 (ap chars (sym e)))
    bytes

-- the first entry with a key is the first whose key has its bytes
pub entry-find : {Z T : Type 0} (entries : List (String Z × T)) (key : List ℕ) → IsUtf8 key
    → option_map (λ e. e.1) (find (λ e. pointwise nat_eq (string_bytes e.0) key) entries) ≡ entry (chars key) (map (entry_of (λ v. v)) entries)
unfolding entry
entry-find [] key text = refl
entry-find (e ∷ entries) key text =
    rw (same_text-chars (string_bytes e.0) key (IsUtf8-string_bytes e.0) text)
    (go (pointwise nat_eq (string_bytes e.0) key) (entry-find entries key text))
  where
    go : (b : Bool) → option_map (λ e. e.1) (find (λ e. pointwise nat_eq (string_bytes e.0) key) entries) ≡ entry (chars key) (map (entry_of (λ v. v)) entries)
        → option_map (λ e. e.1) (cond b (Some e) (find (λ e. pointwise nat_eq (string_bytes e.0) key) entries)) ≡ cond b (Some e.1) (entry (chars key) (map (entry_of (λ v. v)) entries))
    go true rest = refl
    go false rest = rest

-- what is shown of the value under a key
pub entry-map : {Z A B : Type 0} (shown : A → B) (key : List ℕ) (entries : List (String Z × A))
    → option_map shown (entry key (map (entry_of (λ v. v)) entries)) ≡ entry key (map (entry_of shown) entries)
unfolding entry
entry-map shown key [] = refl
entry-map shown key (e ∷ entries) = go (same_text key (chars (string_bytes e.0))) (entry-map shown key entries)
  where
    go : (b : Bool) → option_map shown (entry key (map (entry_of (λ v. v)) entries)) ≡ entry key (map (entry_of shown) entries)
        → option_map shown (cond b (Some e.1) (entry key (map (entry_of (λ v. v)) entries))) ≡ cond b (Some (shown e.1)) (entry key (map (entry_of shown) entries))
    go true rest = refl
    go false rest = rest

-- what is shown of a value behind a reference
pub option_map-copied : {A B : Type 0} (shown : A → B) (found : Option (Bor A)) → option_map (λ x. shown x.now) found ≡ option_map shown (option_copied found)
option_map-copied shown None = refl
option_map-copied shown (Some x) = refl

-- what is shown of what is shown
pub option_map-option_map : {A B C : Type 0} (shown : B → C) (of : A → B) (found : Option A) → option_map shown (option_map of found) ≡ option_map (λ x. shown (of x)) found
option_map-option_map shown of None = refl
option_map-option_map shown of (Some x) = refl
