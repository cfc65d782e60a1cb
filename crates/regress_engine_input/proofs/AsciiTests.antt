-- A test that only ASCII passes may look at one byte, in bytes of UTF-8, on either side.
use Rattle.std.specs.Prelude.{slice_get}
use Rattle.std.specs.Char.{len_utf8}
use Rattle.std.proofs.Common.{◌≡◌, ◌⊎◌, inl, inr, ℕ, zero, suc, ◌+◌, ◌-◌, ◌<◌, ◌≤◌, Bool, false, List, length, Option, Some, None, get_or, if◌then◌else◌, option_map, chars, refl, sym, ap, ap₂, ◌∙◌, arith}
use Rattle.std.specs.Str.{IsUtf8}
use Rattle.std.proofs.lemmas.Option.{slice_get_past, slice_get-get_or}
use Rattle.std.proofs.lemmas.Bool.{cases_lt}
use Rattle.std.proofs.lemmas.Str.{len_utf8_ascii, len_utf8_bounds}
use Rattle.regress_meaning.specs.Meaning.{Direction, Forward, Backward}
use Rattle.regress_meaning.specs.Offsets.{offset, of_utf8}
use Rattle.regress_meaning.specs.Steps.{passed}
use Rattle.regress_meaning.specs.Inputs.{point_told, byte_at, single_next, utf8_next}
use Rattle.regress_engine_input.proofs.Utf8Parts.{offset-next}
use Rattle.regress_front_bytes.proofs.TextLemmas.{offset_of_end as utf8_end}
use Rattle.regress_engine_input.proofs.Utf8Forms.{Form}
use Rattle.regress_engine_input.proofs.Utf8Texts.{form-here, within, utf8_told, utf8_rise}

module _ (bytes : List ℕ) (utf8 : IsUtf8 bytes) (test : ℕ → Bool) (ascii : (c : ℕ) → 0x80 ≤ c → test c ≡ false) where
  abbrev at : ℕ → ℕ
  at p = offset (of_utf8 bytes) p

  abbrev byte : ℕ → ℕ
  byte o = byte_at bytes o

  -- it fails
  fails : (c o : ℕ) → 0x80 ≤ c → passed test (Some (c, o)) ≡ None
  fails c o h = ap (λ (b : Bool). if b then Some o else None) (ascii c h)

  -- A character is one ASCII byte, or neither its first byte nor its last is ASCII.
  abbrev Sides : ℕ → ℕ → Type 0
  Sides p c =
      ((c < 0x80) × (len_utf8 c ≡ 1) × (byte (at p) ≡ c))
      ⊎ ((0x80 ≤ c) × (0x80 ≤ byte (at p)) × ((m : ℕ) → suc m ≡ at p + len_utf8 c → 0x80 ≤ byte m))

  sides : (p c : ℕ) → slice_get (chars bytes) p ≡ Some c → Sides p c
  sides p c e = by_size (cases_lt c 0x80) (form-here bytes utf8 p c e)
    where
      by_size : (c < 0x80) ⊎ (0x80 ≤ c) → Form c (len_utf8 c) (byte (at p)) (byte (at p + 1)) (byte (at p + 2)) (byte (at p + 3)) → Sides p c
      by_size low (inl (a, k, w)) = inl (a, k, w)
      by_size (inl low) (inr (inl (k, r, s, f))) = let h = len_utf8_ascii c low in absurd (omega (arith, h, k))
      by_size (inl low) (inr (inr (inl (k, r, s, t, f)))) = let h = len_utf8_ascii c low in absurd (omega (arith, h, k))
      by_size (inl low) (inr (inr (inr (k, r, s, t, u, f)))) = let h = len_utf8_ascii c low in absurd (omega (arith, h, k))
      by_size (inr high) (inr (inl (k, r, s, f))) =
          inr (high, omega (arith, r.0), λ m g. let same : m ≡ at p + 1 = omega (arith, g, k) in let h = ap byte same in let i = s.0 in omega (arith, h, i))
      by_size (inr high) (inr (inr (inl (k, r, s, t, f)))) =
          inr (high, omega (arith, r.0), λ m g. let same : m ≡ at p + 2 = omega (arith, g, k) in let h = ap byte same in let i = t.0 in omega (arith, h, i))
      by_size (inr high) (inr (inr (inr (k, r, s, t, u, f)))) =
          inr (high, omega (arith, r), λ m g. let same : m ≡ at p + 3 = omega (arith, g, k) in let h = ap byte same in let i = u.0 in omega (arith, h, i))

  pub sees_bytes : (dir : Direction) (p : ℕ) → p ≤ length (chars bytes) → passed test (utf8_next bytes dir (at p)) ≡ passed test (single_next bytes dir (at p))
  sees_bytes Forward p room = by_room (cases_lt p (length (chars bytes)))
    where
      told : (x : Option ℕ) → slice_get (chars bytes) p ≡ x → utf8_next bytes Forward (at p) ≡ option_map (point_told (of_utf8 bytes)) (option_map (λ c. (c, suc p)) x)
      told x e = utf8_told bytes utf8 Forward p room ∙ ap (λ (x : Option ℕ). option_map (point_told (of_utf8 bytes)) (option_map (λ c. (c, suc p)) x)) e

      by_sides : (c : ℕ) → slice_get (chars bytes) p ≡ Some c → p < length (chars bytes) → Sides p c → passed test (utf8_next bytes Forward (at p)) ≡ passed test (single_next bytes Forward (at p))
      by_sides c e less (inl (a, k, w)) =
          let next : at (suc p) ≡ suc (at p) = let n = offset-next bytes utf8 p c e in omega (arith, n, k) in
          ap (passed test) (told (Some c) e) ∙ ap₂ (λ d o. passed test (Some (d, o))) (sym w) next
          ∙ ap (λ x. passed test (option_map (λ c. (c, suc (at p))) x)) (sym (slice_get-get_or bytes (at p) 0 (within bytes utf8 p less)))
      by_sides c e less (inr (high, first, last)) =
          ap (passed test) (told (Some c) e) ∙ fails c (at (suc p)) high ∙ sym (fails (byte (at p)) (suc (at p)) first)
          ∙ ap (λ x. passed test (option_map (λ c. (c, suc (at p))) x)) (sym (slice_get-get_or bytes (at p) 0 (within bytes utf8 p less)))

      by_room : (p < length (chars bytes)) ⊎ (length (chars bytes) ≤ p) → passed test (utf8_next bytes Forward (at p)) ≡ passed test (single_next bytes Forward (at p))
      by_room (inl less) = let e = slice_get-get_or (chars bytes) p 0 less in by_sides (get_or (chars bytes) p 0) e less (sides p (get_or (chars bytes) p 0) e)
      by_room (inr full) =
          let same : p ≡ length (chars bytes) = omega arith in
          let end : length bytes ≤ at p = let g = ap at same ∙ utf8_end bytes utf8 in omega (arith, g) in
          ap (passed test) (told None (slice_get_past (chars bytes) p full)) ∙ ap (λ x. passed test (option_map (λ c. (c, suc (at p))) x)) (sym (slice_get_past bytes (at p) end))
  sees_bytes Backward zero room = refl
  sees_bytes Backward (suc p) room =
      let c : ℕ = get_or (chars bytes) p 0 in
      let e : slice_get (chars bytes) p ≡ Some c = slice_get-get_or (chars bytes) p 0 room in
      let next : at (suc p) ≡ at p + len_utf8 c = offset-next bytes utf8 p c e in
      let some : 1 ≤ len_utf8 c = (len_utf8_bounds c).0 in
      by_sides (at p + len_utf8 c - 1) c e next (omega (arith, next, some)) (sides p c e)
    where
      told : (x : Option ℕ) → slice_get (chars bytes) p ≡ x → utf8_next bytes Backward (at (suc p)) ≡ option_map (point_told (of_utf8 bytes)) (option_map (λ c. (c, p)) x)
      told x e = utf8_told bytes utf8 Backward (suc p) room ∙ ap (λ (x : Option ℕ). option_map (point_told (of_utf8 bytes)) (option_map (λ c. (c, p)) x)) e

      not_past : (suc p < length (chars bytes)) ⊎ (length (chars bytes) ≤ suc p) → at (suc p) ≤ at (length (chars bytes))
      not_past (inl less) = let h = utf8_rise bytes (suc p) (length (chars bytes)) less (omega arith) in omega (arith, h)
      not_past (inr full) = let same : suc p ≡ length (chars bytes) = omega arith in let h = ap at same in omega (arith, h)

      single : (m : ℕ) → at (suc p) ≡ suc m → single_next bytes Backward (at (suc p)) ≡ Some (byte m, m)
      single m last =
          let inside : m < length bytes = let f = utf8_end bytes utf8 in let g = not_past (cases_lt (suc p) (length (chars bytes))) in omega (arith, f, g, last) in
          ap (single_next bytes Backward) last ∙ ap (option_map (λ c. (c, m))) (slice_get-get_or bytes m 0 inside)

      by_sides : (m c : ℕ) → slice_get (chars bytes) p ≡ Some c → at (suc p) ≡ at p + len_utf8 c → at (suc p) ≡ suc m → Sides p c
          → passed test (utf8_next bytes Backward (at (suc p))) ≡ passed test (single_next bytes Backward (at (suc p)))
      by_sides m c e next last (inl (a, k, w)) =
          let here : m ≡ at p = omega (arith, next, last, k) in
          ap (passed test) (told (Some c) e) ∙ ap₂ (λ d o. passed test (Some (d, o))) (sym w ∙ ap byte (sym here)) (sym here) ∙ ap (passed test) (sym (single m last))
      by_sides m c e next last (inr (high, first, end)) =
          ap (passed test) (told (Some c) e) ∙ fails c (at p) high ∙ sym (fails (byte m) m (end m (sym last ∙ next))) ∙ ap (passed test) (sym (single m last))
