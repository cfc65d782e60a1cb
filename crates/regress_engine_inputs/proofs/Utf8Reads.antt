-- What is read at a boundary of UTF-8 is a character, and there is room for it.
use Rattle.std.specs.Prelude.{slice_get}
use Rattle.std.specs.Char.{len_utf8, IsScalar}
use Rattle.std.specs.Option.{SomeIff}
use Rattle.std.proofs.Common.{◌≡◌, ◌⊎◌, inl, inr, ℕ, zero, suc, ◌+◌, ◌-◌, ◌<◌, ◌≤◌, true, false, List, length, Option, Some, None, get_or, option_map, chars, refl, sym, ap, ◌∙◌, subst, arith}
use Rattle.std.specs.Str.{IsUtf8, IsCharBoundary}
use Rattle.regress_front_bytes.proofs.TextLemmas.{place_of_boundary, offset_of_end as utf8_end}
use Rattle.std.proofs.Math.Utf8.{scalar}
use Rattle.std.proofs.lemmas.Option.{slice_get-get_or}
use Rattle.std.proofs.lemmas.Bool.{cases_lt}
use Rattle.std.proofs.lemmas.Bool.Decides.{nat_tests}
use Rattle.regress_meaning.specs.Meaning.{Direction, Forward, Backward}
use Rattle.regress_meaning.specs.Offsets.{offset, of_utf8}
use Rattle.regress_meaning.specs.Inputs.{point_told, neighbour, byte_at, onto_left, bytes_right, bytes_left, is_continuation, of_three, of_four, utf8_next}
use Rattle.regress_engine_input.proofs.Utf8Parts.{offset-next, scalar-here}
use Rattle.regress_engine_input.proofs.Utf8Forms.{form-right, form-left, left-three-told, left-four-told}
use Rattle.regress_engine_input.proofs.PlaceLemmas.{place-inside}
use Rattle.regress_engine_input.proofs.Utf8Texts.{form-here, utf8_told, utf8_rise}

-- what stands at a place is a character
scalar-beside : (bytes : List ℕ) → IsUtf8 bytes → (dir : Direction) (p : ℕ) → (x : ℕ × ℕ) → neighbour (chars bytes) dir p ≡ Some x → scalar x.0 ≡ true
scalar-beside bytes utf8 Forward p x e = by_point (slice_get (chars bytes) p) refl e
  where
    pair : ℕ → ℕ × ℕ
    pair d = (d, suc p)

    by_point : (y : Option ℕ) → slice_get (chars bytes) p ≡ y → option_map pair y ≡ Some x → scalar x.0 ≡ true
    by_point None f e = absurd cc
    by_point (Some d) f e = let same : pair d ≡ x = cc in ap (λ (v : ℕ × ℕ). scalar v.0) (sym same) ∙ scalar-here bytes utf8 p d f
scalar-beside bytes utf8 Backward zero x e = absurd cc
scalar-beside bytes utf8 Backward (suc p) x e = by_point (slice_get (chars bytes) p) refl e
  where
    pair : ℕ → ℕ × ℕ
    pair d = (d, p)

    by_point : (y : Option ℕ) → slice_get (chars bytes) p ≡ y → option_map pair y ≡ Some x → scalar x.0 ≡ true
    by_point None f e = absurd cc
    by_point (Some d) f e = let same : pair d ≡ x = cc in ap (λ (v : ℕ × ℕ). scalar v.0) (sym same) ∙ scalar-here bytes utf8 p d f

-- what is read at a boundary is a character
scalar-read : (bytes : List ℕ) → IsUtf8 bytes → (dir : Direction) (o : ℕ) → IsCharBoundary bytes o → (x : ℕ × ℕ) → utf8_next bytes dir o ≡ Some x → scalar x.0 ≡ true
scalar-read bytes utf8 dir o boundary x e = by_place (place_of_boundary bytes utf8 o boundary)
  where
    by_place : ((p : ℕ) × (p ≤ length (chars bytes)) × (offset (of_utf8 bytes) p ≡ o)) → scalar x.0 ≡ true
    by_place (p, room, here) = by_read (neighbour (chars bytes) dir p) refl
      where
        at_place : (y : Option (ℕ × ℕ)) → neighbour (chars bytes) dir p ≡ y → option_map (point_told (of_utf8 bytes)) y ≡ Some x
        at_place y f = sym (ap (utf8_next bytes dir) (sym here) ∙ utf8_told bytes utf8 dir p room ∙ ap (option_map (point_told (of_utf8 bytes))) f) ∙ e

        by_read : (y : Option (ℕ × ℕ)) → neighbour (chars bytes) dir p ≡ y → scalar x.0 ≡ true
        by_read None f = let g : None ≡ Some x = at_place None f in absurd cc
        by_read (Some y) f =
            let g : Some (point_told (of_utf8 bytes) y) ≡ Some x = at_place (Some y) f in
            let same : point_told (of_utf8 bytes) y ≡ x = cc in
            ap (λ (v : ℕ × ℕ). scalar v.0) (sym same) ∙ scalar-beside bytes utf8 dir p y f

-- so it is the `char` with that number
pub char-read : (bytes : List ℕ) → IsUtf8 bytes → (dir : Direction) (o : ℕ) → IsCharBoundary bytes o → (c q : ℕ) → utf8_next bytes dir o ≡ Some (c, q)
    → (r : Option ℕ) → SomeIff r (IsScalar c) c → option_map (λ (d : ℕ). d) r ≡ option_map (λ (x : ℕ × ℕ). x.0) (utf8_next bytes dir o)
char-read bytes utf8 dir o boundary c q e None never = absurd (never (scalar-read bytes utf8 dir o boundary (c, q) e))
char-read bytes utf8 dir o boundary c q e (Some d) (is, same) = ap (λ v. Some v) same ∙ sym (ap (option_map (λ (x : ℕ × ℕ). x.0)) e)

-- how many bytes the character at an offset takes, as they tell it
abbrev right_width : List ℕ → ℕ → ℕ
right_width bytes o = (bytes_right (byte_at bytes o) (byte_at bytes (o + 1)) (byte_at bytes (o + 2)) (byte_at bytes (o + 3))).1

-- there are so many behind a boundary
enough_right : (bytes : List ℕ) → IsUtf8 bytes → (o : ℕ) → IsCharBoundary bytes o → o < length bytes → o + right_width bytes o ≤ length bytes
enough_right bytes utf8 o boundary inside = by_place (place_of_boundary bytes utf8 o boundary)
  where
    by_place : ((p : ℕ) × (p ≤ length (chars bytes)) × (offset (of_utf8 bytes) p ≡ o)) → o + right_width bytes o ≤ length bytes
    by_place (p, room, here) = by_room (cases_lt p (length (chars bytes)))
      where
        by_room : (p < length (chars bytes)) ⊎ (length (chars bytes) ≤ p) → o + right_width bytes o ≤ length bytes
        by_room (inr full) =
            let same : p ≡ length (chars bytes) = omega arith in
            let end = ap (offset (of_utf8 bytes)) same in
            let last = utf8_end bytes utf8 in absurd (omega (arith, here, end, last, inside))
        by_room (inl less) =
            let c : ℕ = get_or (chars bytes) p 0 in
            let e : slice_get (chars bytes) p ≡ Some c = slice_get-get_or (chars bytes) p 0 less in
            let x : ℕ = offset (of_utf8 bytes) p in
            let f : bytes_right (byte_at bytes x) (byte_at bytes (x + 1)) (byte_at bytes (x + 2)) (byte_at bytes (x + 3)) ≡ (c, len_utf8 c) =
            form-right c (len_utf8 c) (byte_at bytes x) (byte_at bytes (x + 1)) (byte_at bytes (x + 2)) (byte_at bytes (x + 3)) (form-here bytes utf8 p c e) in
            let width : right_width bytes x ≡ len_utf8 c = ap (λ (v : ℕ × ℕ). v.1) f in
            let next : offset (of_utf8 bytes) (suc p) ≡ x + len_utf8 c = offset-next bytes utf8 p c e in
            let last : offset (of_utf8 bytes) (suc p) ≤ length bytes = place-inside (of_utf8 bytes) (utf8_rise bytes) (length bytes) (utf8_end bytes utf8) (suc p) less in
            subst (λ q. q + right_width bytes q ≤ length bytes) here (omega (arith, width, next, last))

-- a first byte tells how many follow it
module _ (bytes : List ℕ) (utf8 : IsUtf8 bytes) (o : ℕ) (boundary : IsCharBoundary bytes o) (inside : o < length bytes) where
  pub room_of_two : 0x80 ≤ byte_at bytes o → o + 1 < length bytes
  room_of_two h = let e = enough_right bytes utf8 o boundary inside in grind (arith, nat_tests)

  pub room_of_three : 0xE0 ≤ byte_at bytes o → o + 2 < length bytes
  room_of_three h = let e = enough_right bytes utf8 o boundary inside in grind (arith, nat_tests)

  pub room_of_four : 0xF0 ≤ byte_at bytes o → o + 3 < length bytes
  room_of_four h = let e = enough_right bytes utf8 o boundary inside in grind (arith, nat_tests)

-- how many bytes the character that ends with a byte takes, as they tell it
abbrev left_width : List ℕ → ℕ → ℕ
left_width bytes m = (bytes_left (byte_at bytes (m - 3)) (byte_at bytes (m - 2)) (byte_at bytes (m - 1)) (byte_at bytes m)).1

-- there are so many before a boundary
enough_left : (bytes : List ℕ) → IsUtf8 bytes → (m : ℕ) → IsCharBoundary bytes (suc m) → left_width bytes m ≤ suc m
enough_left bytes utf8 m boundary = by_place (place_of_boundary bytes utf8 (suc m) boundary)
  where
    by_place : ((p : ℕ) × (p ≤ length (chars bytes)) × (offset (of_utf8 bytes) p ≡ suc m)) → left_width bytes m ≤ suc m
    by_place (zero, room, here) = absurd (cc here)
    by_place (suc p, room, here) =
        let c : ℕ = get_or (chars bytes) p 0 in
        let e : slice_get (chars bytes) p ≡ Some c = slice_get-get_or (chars bytes) p 0 room in
        let next : offset (of_utf8 bytes) (suc p) ≡ offset (of_utf8 bytes) p + len_utf8 c = offset-next bytes utf8 p c e in
        let f = form-left (byte_at bytes) c (len_utf8 c) (offset (of_utf8 bytes) p) m (sym here ∙ next) (form-here bytes utf8 p c e) in
        let width : left_width bytes m ≡ len_utf8 c = ap (λ (v : ℕ × ℕ). v.1) f in
        omega (arith, width, next, here)

-- bytes that are not the first of a character tell that more stand before them
module _ (bytes : List ℕ) (utf8 : IsUtf8 bytes) (at : ℕ) (boundary : IsCharBoundary bytes at) (some : 0 < at) where
  enough_before : left_width bytes (at - 1) ≤ at
  enough_before =
      let same : suc (at - 1) ≡ at = omega (arith, some) in
      let h = enough_left bytes utf8 (at - 1) (subst (IsCharBoundary bytes) (sym same) boundary) in omega (arith, h, same)

  pub room_before_two : 0x80 ≤ byte_at bytes (at - 1) → 2 ≤ at
  room_before_two h = let e = enough_before in grind (arith, nat_tests)

  pub room_before_three : 0x80 ≤ byte_at bytes (at - 1) → is_continuation (byte_at bytes (at - 2)) ≡ true → 3 ≤ at
  room_before_three h g = let e = enough_before in grind (arith, nat_tests)

  pub room_before_four : 0x80 ≤ byte_at bytes (at - 1) → is_continuation (byte_at bytes (at - 2)) ≡ true → is_continuation (byte_at bytes (at - 3)) ≡ true → 4 ≤ at
  room_before_four h g f = let e = enough_before in grind (arith, nat_tests)

-- what is read backward, by the bytes before the offset
module _ (bytes : List ℕ) (at c : ℕ) (some : 0 < at) (room : at ≤ length bytes) where
  abbrev back : ℕ → ℕ
  back n = byte_at bytes (at - n)

  read_back : utf8_next bytes Backward at ≡ Some (onto_left at (bytes_left (back 4) (back 3) (back 2) (back 1)))
  read_back = by_suc (at - 1) (omega (arith, some))
    where
      by_suc : (m : ℕ) → at ≡ suc m → utf8_next bytes Backward at ≡ Some (onto_left at (bytes_left (back 4) (back 3) (back 2) (back 1)))
      by_suc m e =
          let one : at - 1 ≡ m = omega (arith, e) in
          let two : at - 2 ≡ m - 1 = omega (arith, e) in
          let three : at - 3 ≡ m - 2 = omega (arith, e) in
          let four : at - 4 ≡ m - 3 = omega (arith, e) in
          ap (utf8_next bytes Backward) e
          ∙ ap (option_map (λ z. onto_left (suc m) (bytes_left (byte_at bytes (m - 3)) (byte_at bytes (m - 2)) (byte_at bytes (m - 1)) z))) (slice_get-get_or bytes m 0 (omega (arith, e, room)))
          ∙ rw (one, two, three, four, e) refl

  pub read_three : 0x80 ≤ back 1 → is_continuation (back 2) ≡ true → is_continuation (back 3) ≡ false → c ≡ of_three (back 3) (back 2) (back 1)
      → Some (c, at - 3) ≡ utf8_next bytes Backward at
  read_three h g f same =
      ap (λ d. Some (d, at - 3)) same
      ∙ sym (read_back ∙ ap (λ x. Some (onto_left at x)) (left-three-told (back 4) (back 3) (back 2) (back 1) h g f))

  pub read_four : 0x80 ≤ back 1 → is_continuation (back 2) ≡ true → is_continuation (back 3) ≡ true → c ≡ of_four (back 4) (back 3) (back 2) (back 1)
      → Some (c, at - 4) ≡ utf8_next bytes Backward at
  read_four h g f same =
      ap (λ d. Some (d, at - 4)) same
      ∙ sym (read_back ∙ ap (λ x. Some (onto_left at x)) (left-four-told (back 4) (back 3) (back 2) (back 1) h g f))
