-- Bytes of UTF-8, cut at the offset of a place: the characters before it stand before it, and the others behind.
use Rattle.std.specs.Prelude.{slice_get, sum_by}
use Rattle.std.specs.Char.{len_utf8}
use Rattle.std.proofs.Common.{◌≡◌, ℕ, zero, suc, ◌+◌, ◌<◌, true, List, [], ◌∷◌, ◌++◌, length, take, drop, Some, chars, sym, ap, ap₂, ◌∙◌, arith}
use Rattle.std.proofs.lemmas.Bool.{and_parts}
use Rattle.std.specs.Str.{IsUtf8}
use Rattle.std.proofs.Math.Utf8.{encode, encodes, scalar, scalars}
use Rattle.std.proofs.Math.Seq.{take-append_seam, drop-append_seam}
use Rattle.std.proofs.lemmas.Option.{slice_get_within, get_or_from_slice_get}
use Rattle.std.proofs.lemmas.List.{take-append-drop, drop_more, take_more}
use Rattle.std.proofs.lemmas.List.Sums.{sum_by_push}
use Rattle.std.proofs.lemmas.Str.{encodes-append, encodes-chars, scalars-chars}
use Rattle.regress_front_bytes.proofs.TextLemmas.{length-encodes}
use Rattle.regress_meaning.specs.Offsets.{offset, of_utf8}

module _ (bytes : List ℕ) (utf8 : IsUtf8 bytes) where
  abbrev pub points : List ℕ
  points = chars bytes

  -- the bytes are those of the characters on either side of a place
  pub cut : (p : ℕ) → bytes ≡ encodes (take p points) ++ encodes (drop p points)
  cut p = sym (encodes-chars bytes utf8) ∙ ap encodes (sym (take-append-drop p points)) ∙ encodes-append (take p points) (drop p points)

  pub offset-is : (p : ℕ) → offset (of_utf8 bytes) p ≡ length (encodes (take p points))
  offset-is p = sym (length-encodes (take p points))

  pub bytes-before : (p : ℕ) → take (offset (of_utf8 bytes) p) bytes ≡ encodes (take p points)
  bytes-before p = ap₂ take (offset-is p) (cut p) ∙ take-append_seam (encodes (take p points)) (encodes (drop p points))

  pub bytes-behind : (p : ℕ) → drop (offset (of_utf8 bytes) p) bytes ≡ encodes (drop p points)
  bytes-behind p = ap₂ drop (offset-is p) (cut p) ∙ drop-append_seam (encodes (take p points)) (encodes (drop p points))

  -- one character more
  pub points-behind : (p c : ℕ) → slice_get points p ≡ Some c → drop p points ≡ c ∷ drop (suc p) points
  points-behind p c e =
      let room : p < length points = slice_get_within points p c e in
      let next : p + 1 ≡ suc p = omega arith in
      drop_more points p 0 room ∙ ap₂ (λ x q. x ∷ drop q points) (get_or_from_slice_get points p c 0 e) next

  pub points-before : (p c : ℕ) → slice_get points p ≡ Some c → take (suc p) points ≡ take p points ++ c ∷ []
  points-before p c e =
      let room : p < length points = slice_get_within points p c e in
      let next : p + 1 ≡ suc p = omega arith in
      ap (λ q. take q points) (sym next) ∙ take_more points p 0 room ∙ ap (λ x. take p points ++ x ∷ []) (get_or_from_slice_get points p c 0 e)

  pub offset-next : (p c : ℕ) → slice_get points p ≡ Some c → offset (of_utf8 bytes) (suc p) ≡ offset (of_utf8 bytes) p + len_utf8 c
  offset-next p c e = ap (sum_by len_utf8) (points-before p c e) ∙ sum_by_push len_utf8 (take p points) c

  -- the bytes at an offset are those of the character there
  pub bytes-here : (p c : ℕ) → slice_get points p ≡ Some c → drop (offset (of_utf8 bytes) p) bytes ≡ encode c ++ encodes (drop (suc p) points)
  bytes-here p c e = bytes-behind p ∙ ap encodes (points-behind p c e)

scalar-at : (cs : List ℕ) → scalars cs ≡ true → (p c : ℕ) → slice_get cs p ≡ Some c → scalar c ≡ true
scalar-at [] all p c e = absurd (cc)
scalar-at (d ∷ cs) all zero c e = let f : d ≡ c = cc in ap scalar (sym f) ∙ (and_parts (scalar d) (scalars cs) all).0
scalar-at (d ∷ cs) all (suc p) c e = scalar-at cs (and_parts (scalar d) (scalars cs) all).1 p c e

pub scalar-here : (bytes : List ℕ) → IsUtf8 bytes → (p c : ℕ) → slice_get (chars bytes) p ≡ Some c → scalar c ≡ true
scalar-here bytes utf8 = scalar-at (chars bytes) (scalars-chars bytes utf8)
