-- Bytes of UTF-8 tell their characters, from either side.
use Rattle.std.specs.Prelude.{slice_get}
use Rattle.std.specs.Char.{len_utf8}
use Rattle.std.proofs.Common.{◌≡◌, ◌⊎◌, inl, inr, ℕ, zero, suc, ◌+◌, ◌-◌, ◌<◌, ◌≤◌, Bool, true, List, ◌++◌, length, drop, Option, Some, None, get_or, option_map, chars, refl, sym, ap, ◌∙◌, arith}
use Rattle.std.specs.Str.{IsUtf8}
use Rattle.regress_front_bytes.proofs.TextLemmas.{chars-code_points, offset_of_end as utf8_end}
use Rattle.std.proofs.Math.Utf8.{encode, encodes, scalar}
use Rattle.std.proofs.lemmas.Option.{slice_get_past, slice_get_within, slice_get-get_or}
use Rattle.std.proofs.lemmas.Bool.{cases_lt}
use Rattle.std.proofs.lemmas.Bool.Decides.{nat_tests}
use Rattle.std.proofs.lemmas.List.{get_or-drop}
use Rattle.std.proofs.lemmas.Str.{len_utf8_bounds}
use Rattle.regress_meaning.specs.Table.{Table}
use Rattle.regress_meaning.specs.Meaning.{Direction, Forward, Backward}
use Rattle.regress_meaning.specs.Laws.{OffsetsRise}
use Rattle.regress_meaning.specs.Offsets.{Reading, offset, of_utf8}
use Rattle.regress_meaning.proofs.OffsetLemmas.{rise}
use Rattle.regress_meaning.specs.Inputs.{Tells, point_told, neighbour, byte_at, onto_right, onto_left, bytes_right, bytes_left, utf8_next, utf8_input}
use Rattle.regress_engine_input.proofs.Utf8Parts.{offset-next, bytes-here, scalar-here}
use Rattle.regress_engine_input.proofs.Utf8Forms.{Form, form, form-right, form-left, Form-same}

scalar-within : (c : ℕ) → scalar c ≡ true → c ≤ 0x10_FFFF
scalar-within c h = grind (arith, nat_tests)

pub utf8_rise : (bytes : List ℕ) → OffsetsRise (of_utf8 bytes)
utf8_rise bytes = rise (of_utf8 bytes) (λ d. (len_utf8_bounds d).0)

module _ (bytes : List ℕ) (utf8 : IsUtf8 bytes) where
  abbrev reading : Reading
  reading = of_utf8 bytes

  abbrev at : ℕ → ℕ
  at p = offset reading p

  abbrev byte : ℕ → ℕ
  byte o = byte_at bytes o

  -- the bytes at a place are those of its character
  pub form-here : (p c : ℕ) → slice_get (chars bytes) p ≡ Some c → Form c (len_utf8 c) (byte (at p)) (byte (at p + 1)) (byte (at p + 2)) (byte (at p + 3))
  form-here p c e =
      let rest : List ℕ = encodes (drop (suc p) (chars bytes)) in
      let seen : (j : ℕ) → get_or (encode c ++ rest) j 0 ≡ byte (at p + j) = λ j. ap (λ xs. get_or xs j 0) (sym (bytes-here bytes utf8 p c e)) ∙ get_or-drop (at p) bytes j 0 in
      Form-same c (len_utf8 c) (get_or (encode c ++ rest) 0 0) (get_or (encode c ++ rest) 1 0) (get_or (encode c ++ rest) 2 0) (get_or (encode c ++ rest) 3 0)
      (byte (at p)) (byte (at p + 1)) (byte (at p + 2)) (byte (at p + 3))
      (seen 0 ∙ ap byte (omega arith)) (seen 1) (seen 2) (seen 3)
      (form c (scalar-within c (scalar-here bytes utf8 p c e)) rest)

  -- and there is one
  pub within : (p : ℕ) → p < length (chars bytes) → at p < length bytes
  within p less = let e = utf8_end bytes utf8 in let h = utf8_rise bytes p (length (chars bytes)) less (omega arith) in omega (arith, e, h)

  pub utf8_told : (dir : Direction) (p : ℕ) → p ≤ length (chars bytes) → utf8_next bytes dir (at p) ≡ option_map (point_told reading) (neighbour (chars bytes) dir p)
  utf8_told Forward p room = by_point (slice_get (chars bytes) p) refl
    where
      right : Option ℕ → Option (ℕ × ℕ)
      right x = option_map (λ w. onto_right (at p) (bytes_right w (byte (at p + 1)) (byte (at p + 2)) (byte (at p + 3)))) x

      point : Option ℕ → Option (ℕ × ℕ)
      point c = option_map (point_told reading) (option_map (λ c. (c, suc p)) c)

      by_point : (x : Option ℕ) → slice_get (chars bytes) p ≡ x → utf8_next bytes Forward (at p) ≡ point x
      by_point None e =
          let full : length (chars bytes) ≤ p = by_room (cases_lt p (length (chars bytes))) in
          let same : p ≡ length (chars bytes) = omega arith in
          let end : length bytes ≤ at p = let g = ap at same ∙ utf8_end bytes utf8 in omega (arith, g) in
          ap right (slice_get_past bytes (at p) end)
        where
          by_room : (p < length (chars bytes)) ⊎ (length (chars bytes) ≤ p) → length (chars bytes) ≤ p
          by_room (inl less) = let h = slice_get-get_or (chars bytes) p 0 less in absurd (cc)
          by_room (inr full) = full
      by_point (Some c) e =
          let less : p < length (chars bytes) = slice_get_within (chars bytes) p c e in
          ap right (slice_get-get_or bytes (at p) 0 (within p less))
          ∙ ap (λ x. Some (onto_right (at p) x)) (form-right c (len_utf8 c) (byte (at p)) (byte (at p + 1)) (byte (at p + 2)) (byte (at p + 3)) (form-here p c e))
          ∙ ap (λ n. Some (c, n)) (sym (offset-next bytes utf8 p c e))
  utf8_told Backward zero room = refl
  utf8_told Backward (suc p) room =
      let c : ℕ = get_or (chars bytes) p 0 in
      let e : slice_get (chars bytes) p ≡ Some c = slice_get-get_or (chars bytes) p 0 room in
      let next : at (suc p) ≡ at p + len_utf8 c = offset-next bytes utf8 p c e in
      let some : 1 ≤ len_utf8 c = (len_utf8_bounds c).0 in
      let last : at (suc p) ≡ suc (at p + len_utf8 c - 1) = omega (arith, next, some) in
      by_last (at p + len_utf8 c - 1) c e next last ∙ sym (ap (λ x. option_map (point_told reading) (option_map (λ c. (c, p)) x)) e)
    where
      by_last : (m c : ℕ) → slice_get (chars bytes) p ≡ Some c → at (suc p) ≡ at p + len_utf8 c → at (suc p) ≡ suc m → utf8_next bytes Backward (at (suc p)) ≡ Some (c, at p)
      by_last m c e next last =
          let inside : m < length bytes = let f = utf8_end bytes utf8 in let g = not_past (cases_lt (suc p) (length (chars bytes))) in omega (arith, f, g, last) in
          ap (utf8_next bytes Backward) last
          ∙ ap (option_map (λ z. onto_left (suc m) (bytes_left (byte (m - 3)) (byte (m - 2)) (byte (m - 1)) z))) (slice_get-get_or bytes m 0 inside)
          ∙ ap (λ x. Some (onto_left (suc m) x)) (form-left byte c (len_utf8 c) (at p) m (sym last ∙ next) (form-here p c e))
          ∙ ap (λ o. Some (c, o)) (omega (arith, next, last))
        where
          not_past : (suc p < length (chars bytes)) ⊎ (length (chars bytes) ≤ suc p) → at (suc p) ≤ at (length (chars bytes))
          not_past (inl less) = let h = utf8_rise bytes (suc p) (length (chars bytes)) less (omega arith) in omega (arith, h)
          not_past (inr full) = let same : suc p ≡ length (chars bytes) = omega arith in let h = ap at same in omega (arith, h)

pub utf8_tells : (table : Table) (unicode : Bool) (bytes : List ℕ) → IsUtf8 bytes → Tells (of_utf8 bytes) (utf8_input table unicode bytes)
utf8_tells table unicode bytes utf8 = record {
  next = utf8_told bytes utf8;
  rise = utf8_rise bytes;
  points = chars-code_points bytes utf8;
}
