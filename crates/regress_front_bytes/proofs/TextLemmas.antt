-- Places of a text held as UTF-8, and where its bytes may be cut.
use Rattle.std.proofs.Common.{◌≡◌, ℕ, zero, suc, ◌+◌, ◌<◌, ◌≤◌, ◌⊎◌, List, [], ◌∷◌, ◌++◌, length, take, drop, true, sum_by, sym, ap, ◌∙◌, refl, inl, inr, arith}
use Rattle.std.proofs.lemmas.Bool.{and_parts}
use Rattle.std.proofs.lemmas.List.{length-append, length-take-le, take_all, take-take, take-append-drop}
use Rattle.std.proofs.lemmas.List.Sums.{sum_by-cons, sum_by-take-le}
use Rattle.std.proofs.lemmas.List.Elements.{All-nil, All-cons}
use Rattle.std.proofs.lemmas.Str.{encodes-append, length-encode, chars_from_encodes, encodes-chars, scalars-chars, IsCharBoundary-at_seam, IsUtf8-take, IsUtf8-drop}
use Rattle.std.proofs.Math.Seq.{take-append_seam}
use Rattle.std.specs.Prelude.{encode_utf8, All}
use Rattle.std.specs.Char.{len_utf8}
use Rattle.std.specs.Str.{encode_utf8_all, all_scalars, chars, IsUtf8, IsCharBoundary}
use lib.Utf8.{scalar, scalar_cases}
use Rattle.regress_meaning.specs.Offsets.{Reading, offset, of_utf8, Begins}

-- characters take as many bytes as their widths say
pub length-encodes : (cs : List ℕ) → length (encode_utf8_all cs) ≡ sum_by len_utf8 cs
length-encodes [] = refl
length-encodes (c ∷ cs) =
    length-append (encode_utf8 c) (encode_utf8_all cs) ∙ ap (λ n. n + length (encode_utf8_all cs)) (length-encode c)
    ∙ ap (λ n. len_utf8 c + n) (length-encodes cs) ∙ sym (sum_by-cons len_utf8 c cs)

-- characters behind a place are characters
pub scalars-drop : (cs : List ℕ) (k : ℕ) → all_scalars cs ≡ true → all_scalars (drop k cs) ≡ true
scalars-drop [] zero e = e
scalars-drop [] (suc k) e = e
scalars-drop (c ∷ cs) zero e = e
scalars-drop (c ∷ cs) (suc k) e = scalars-drop cs k (and_parts _ _ e).1

-- the offset of each place of a text is where it may be cut
pub offset_is_boundary : (bytes : List ℕ) → IsUtf8 bytes → (place : ℕ) → IsCharBoundary bytes (offset (of_utf8 bytes) place)
offset_is_boundary bytes utf8 place =
    let cs = chars bytes in
    let front = encode_utf8_all (take place cs) in
    let back = encode_utf8_all (drop place cs) in
    let cut : bytes ≡ front ++ back =
    sym (encodes-chars bytes utf8) ∙ ap encode_utf8_all (sym (take-append-drop place cs)) ∙ encodes-append (take place cs) (drop place cs) in
    let characters : IsUtf8 back = (drop place cs, (scalars-drop cs place (scalars-chars bytes utf8), refl)) in
    rw (← length-encodes (take place cs)) (IsCharBoundary-at_seam bytes front back cut characters)

-- that of the end is its length
pub offset_of_end : (bytes : List ℕ) → IsUtf8 bytes → offset (of_utf8 bytes) (length (chars bytes)) ≡ length bytes
offset_of_end bytes utf8 =
    ap (sum_by len_utf8) (take_all (length (chars bytes)) (chars bytes) (omega arith)) ∙ sym (length-encodes (chars bytes))
    ∙ ap length (encodes-chars bytes utf8)

-- a place that is no later has no greater offset
pub offset-le : (r : Reading) (p q : ℕ) → p ≤ q → offset r p ≤ offset r q
offset-le r p q le = rw take-take at (sum_by-take-le r.width (take q r.points) p)

-- characters are code points
pub code_points : (cs : List ℕ) → all_scalars cs ≡ true → All (λ c. c ≤ 0x10_FFFF) cs
code_points [] e = All-nil (λ c. c ≤ 0x10_FFFF)
code_points (c ∷ cs) e =
    All-cons (λ d. d ≤ 0x10_FFFF) c cs (low (scalar_cases c (and_parts (scalar c) (all_scalars cs) e).0))
    (code_points cs (and_parts (scalar c) (all_scalars cs) e).1)
  where
    low : (c < 0xD800) ⊎ ((0xE000 ≤ c) × (c < 0x11_0000)) → c ≤ 0x10_FFFF
    low (inl below) = omega arith
    low (inr above) = omega (arith, above.1)

-- the characters of a text are code points
pub chars-code_points : (bytes : List ℕ) → IsUtf8 bytes → All (λ c. c ≤ 0x10_FFFF) (chars bytes)
chars-code_points bytes utf8 = code_points (chars bytes) (scalars-chars bytes utf8)

-- a text may be cut only at the offset of a place
pub place_of_boundary : (bytes : List ℕ) → IsUtf8 bytes → (at : ℕ) → IsCharBoundary bytes at
    → (place : ℕ) × (place ≤ length (chars bytes)) × (offset (of_utf8 bytes) place ≡ at)
place_of_boundary bytes utf8 at cut =
    let front = chars (take at bytes) in
    let back = chars (drop at bytes) in
    let before : encode_utf8_all front ≡ take at bytes = encodes-chars (take at bytes) (IsUtf8-take bytes at utf8 cut) in
    let after : encode_utf8_all back ≡ drop at bytes = encodes-chars (drop at bytes) (IsUtf8-drop bytes at utf8 cut) in
    let both : front ++ back ≡ chars bytes =
    chars_from_encodes (front ++ back) bytes utf8 (encodes-append front back ∙ cc (before, after, take-append-drop at bytes)) in
    let bound : length front ≤ length (chars bytes) = omega (arith, length-append front back, ap length both) in
    let here : take (length front) (chars bytes) ≡ front = ap (take (length front)) (sym both) ∙ take-append_seam front back in
    (length front, bound, ap (sum_by len_utf8) here ∙ sym (length-encodes front) ∙ ap length before ∙ length-take-le at bytes cut.0)

-- where a search begins inside a text, it may be cut
pub boundary_of_place : (bytes : List ℕ) → IsUtf8 bytes → (at : ℕ) → at ≤ length bytes → (place : ℕ) → Begins (of_utf8 bytes) at place
    → IsCharBoundary bytes at
boundary_of_place bytes utf8 at inside place (inl (within, here)) = rw here at (offset_is_boundary bytes utf8 place)
boundary_of_place bytes utf8 at inside place (inr (end, past)) = absurd (omega (arith, past, offset_of_end bytes utf8))
