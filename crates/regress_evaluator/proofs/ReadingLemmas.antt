-- The code points of a text and the offsets of its places, one code point after another.
use Rattle.std.proofs.Common.{◌≡◌, ℕ, zero, suc, ◌+◌, ◌<◌, ◌≤◌, ◌⊎◌, List, [], ◌∷◌, ◌++◌, length, take, Some, sum_by, refl, sym, ap, ◌∙◌, inl, inr, arith}
use Rattle.std.proofs.lemmas.Bool.{cases_lt}
use Rattle.std.proofs.lemmas.List.{append_assoc, append-nil, length_push, take-append-le, take_all, nil_from_length}
use Rattle.std.proofs.lemmas.List.Sums.{sum_by_push}
use Rattle.std.proofs.lemmas.Str.{encodes-append, length-encode, chars_from_encodes}
use Rattle.std.specs.Prelude.{encode_utf8, slice_get}
use Rattle.std.specs.Char.{len_utf8}
use Rattle.std.specs.Str.{encode_utf8_all, chars, IsUtf8}
use Rattle.regress_front_bytes.proofs.TextLemmas.{length-encodes}

-- an element of a list that grows at its end
slice_get-append : {X : Type 0} (xs ys : List X) (k : ℕ) (x : X) → slice_get xs k ≡ Some x → slice_get (xs ++ ys) k ≡ Some x
slice_get-append [] ys k x e = cc
slice_get-append (z ∷ xs) ys zero x e = e
slice_get-append (z ∷ xs) ys (suc k) x e = slice_get-append xs ys k x e

-- and the one that it grows by
slice_get_push : {X : Type 0} (xs : List X) (x : X) → slice_get (xs ++ x ∷ []) (length xs) ≡ Some x
slice_get_push [] x = refl
slice_get_push (z ∷ xs) x = slice_get_push xs x

-- The code points read so far, with the offset before each; `rest` is what is left of the bytes, and begins at `at`.
pub record IsReadTo (bytes rest : List ℕ) (at : ℕ) (points offsets : List ℕ) : Type 0 where
  pub cut : bytes ≡ encode_utf8_all points ++ rest
  pub here : at ≡ sum_by len_utf8 points
  pub count : length offsets ≡ length points
  pub each : (place : ℕ) → place < length points → slice_get offsets place ≡ Some (sum_by len_utf8 (take place points))

-- the offset of each place, where the list of offsets grows by that of the last
grown : (points offsets : List ℕ) (at : ℕ) → at ≡ sum_by len_utf8 points → length offsets ≡ length points
    → ((place : ℕ) → place < length points → slice_get offsets place ≡ Some (sum_by len_utf8 (take place points)))
    → (place : ℕ) → place ≤ length points → slice_get (offsets ++ at ∷ []) place ≡ Some (sum_by len_utf8 (take place points))
grown points offsets at here count each place within = go (cases_lt place (length points))
  where
    go : (place < length points) ⊎ (length points ≤ place)
        → slice_get (offsets ++ at ∷ []) place ≡ Some (sum_by len_utf8 (take place points))
    go (inl before) = slice_get-append offsets (at ∷ []) place _ (each place before)
    go (inr past) =
        let last : place ≡ length offsets = omega arith in
        rw (last, slice_get_push offsets at, take_all (length offsets) points (omega arith)) (ap Some here)

-- the bytes are cut one character on
cut_more : (bytes rest rest' : List ℕ) (c : ℕ) (points : List ℕ) → bytes ≡ encode_utf8_all points ++ rest → rest ≡ encode_utf8 c ++ rest'
    → bytes ≡ encode_utf8_all (points ++ c ∷ []) ++ rest'
cut_more bytes rest rest' c points cut more =
    let one : encode_utf8_all (points ++ c ∷ []) ≡ encode_utf8_all points ++ encode_utf8 c =
    encodes-append points (c ∷ []) ∙ ap (λ s. encode_utf8_all points ++ s) (append-nil (encode_utf8 c)) in
    cut ∙ ap (λ s. encode_utf8_all points ++ s) more ∙ sym (append_assoc (encode_utf8_all points) (encode_utf8 c) rest')
    ∙ ap (λ s. s ++ rest') (sym one)

-- one more character
more_read : (bytes rest rest' : List ℕ) (at at' c : ℕ) (points offsets : List ℕ) → IsReadTo bytes rest at points offsets
    → rest ≡ encode_utf8 c ++ rest' → at' ≡ at + length (encode_utf8 c)
    → IsReadTo bytes rest' at' (points ++ c ∷ []) (offsets ++ at ∷ [])
more_read bytes rest rest' at at' c points offsets r more on = record {
  cut = cut_more bytes rest rest' c points r.cut more;
  here = omega (arith, on, r.here, length-encode c, sum_by_push len_utf8 points c);
  count = omega (arith, r.count, length_push offsets at, length_push points c);
  each = λ place within.
      let before : place ≤ length points = omega (arith, within, length_push points c) in
      rw (take-append-le place points (c ∷ []) before) (grown points offsets at r.here r.count r.each place before);
}

-- the same, as a step of the iterator gives it
pub IsReadTo_more : (bytes rest rest' : List ℕ) (at at' start c : ℕ) (points points' offsets offsets' : List ℕ)
    → IsReadTo bytes rest at points offsets → (start ≡ at) × (rest ≡ encode_utf8 c ++ rest') × (at' ≡ at + length (encode_utf8 c))
    → points' ≡ points ++ c ∷ [] → offsets' ≡ offsets ++ start ∷ [] → IsReadTo bytes rest' at' points' offsets'
IsReadTo_more bytes rest rest' at at' start c points points' offsets offsets' r step e f =
    rw (e, f, step.0) (more_read bytes rest rest' at at' c points offsets r step.1 step.2)

-- what is left at the end of the bytes: nothing
nothing_left : (bytes rest : List ℕ) (at : ℕ) (points offsets : List ℕ) → IsReadTo bytes rest at points offsets → length rest ≡ 0
    → bytes ≡ encode_utf8_all points
nothing_left bytes rest at points offsets r end =
    r.cut ∙ ap (λ s. encode_utf8_all points ++ s) (nil_from_length rest end) ∙ append-nil (encode_utf8_all points)

-- at the end the code points are those of the text
pub points_read : (bytes rest : List ℕ) (at : ℕ) (points offsets : List ℕ) → IsUtf8 bytes → IsReadTo bytes rest at points offsets
    → length rest ≡ 0 → points ≡ chars bytes
points_read bytes rest at points offsets utf8 r end = chars_from_encodes points bytes utf8 (sym (nothing_left bytes rest at points offsets r end))

-- and each place has its offset
pub offsets_read : (bytes rest : List ℕ) (at : ℕ) (points offsets : List ℕ) → IsReadTo bytes rest at points offsets → length rest ≡ 0
    → (place : ℕ) → place ≤ length points
    → slice_get (offsets ++ length bytes ∷ []) place ≡ Some (sum_by len_utf8 (take place points))
offsets_read bytes rest at points offsets r end =
    let all : length bytes ≡ sum_by len_utf8 points =
    ap length (nothing_left bytes rest at points offsets r end) ∙ length-encodes points in
    grown points offsets (length bytes) all r.count r.each
