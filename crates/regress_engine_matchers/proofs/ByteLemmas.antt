-- Tests on the byte beside a position.
use Rattle.std.specs.Prelude.{chars}
use Rattle.std.specs.Str.{IsUtf8}
use Rattle.std.proofs.Common.{◌≡◌, ℕ, zero, suc, ◌≤◌, Bool, true, false, List, length, Option, Some, None, option_map, if◌then◌else◌, refl, sym, ap, ◌∙◌, ◌-◌, arith}
use Rattle.regress_meaning.specs.Meaning.{Direction, Forward, Backward}
use Rattle.regress_meaning.specs.Offsets.{offset, of_utf8}
use Rattle.regress_meaning.specs.Inputs.{single_next}
use Rattle.regress_meaning.specs.Steps.{passed, only_if}
use Rattle.regress_front_bytes.proofs.TextLemmas.{place_of_boundary}
use Rattle.regress_engine_input.specs.Views.{View, Kind, utf8, ascii, utf16, ucs2, AreOfKind, IsReadable, CanRead, are_bytes, input_of, input_of_kind, reading_of_kind, in_bytes, unit_beside, past_unit}
use Rattle.regress_engine_input.proofs.AsciiTests.{sees_bytes}
use Rattle.regress_engine_input.proofs.UnitTexts.{single_offset}
use Rattle.regress_engine_matchers.specs.References.{IsPlace}

-- over bytes what is found is found
pub in-bytes : (kind : Kind) (found : Option ℕ) → are_bytes kind ≡ true → in_bytes kind found ≡ found
in-bytes kind found are = ap (λ (b : Bool). if b then found else None) are

module _ (units : List ℕ) (test : ℕ → Bool) where
  byte_passes : (dir : Direction) (o b pos : ℕ) → Some b ≡ unit_beside units dir o → pos ≡ past_unit dir o → only_if (test b) pos ≡ passed test (single_next units dir o)
  byte_passes Forward o b pos e h = ap (only_if (test b)) h ∙ ap (λ (x : Option ℕ). passed test (option_map (λ c. (c, suc o)) x)) e
  byte_passes Backward zero b pos e h = absurd (cc e)
  byte_passes Backward (suc o) b pos e h =
      let before : suc o - 1 ≡ o = omega arith in
      ap (only_if (test b)) (h ∙ before) ∙ ap (λ (x : Option ℕ). passed test (option_map (λ c. (c, o)) x)) e

-- where one may read over bytes is a place
pub byte_place : (v : View) → AreOfKind v.kind v.units → are_bytes v.kind ≡ true → (o : ℕ) → CanRead v o → IsPlace v o
byte_place v all are o can = by_kind v.kind all are can
  where
    by_kind : (kind : Kind) → AreOfKind kind v.units → are_bytes kind ≡ true → IsReadable kind v.units o
        → (p : ℕ) × (p ≤ length (reading_of_kind kind v.units).points) × (offset (reading_of_kind kind v.units) p ≡ o)
    by_kind utf8 utf bytes there = place_of_boundary v.units utf o there
    by_kind ascii low bytes there = (o, there, single_offset v.units o there)
    by_kind utf16 units bytes there = absurd (cc bytes)
    by_kind ucs2 units bytes there = absurd (cc bytes)

module _ (v : View) (all : AreOfKind v.kind v.units) (are : are_bytes v.kind ≡ true) (test : ℕ → Bool) (low : (c : ℕ) → 0x80 ≤ c → test c ≡ false) (dir : Direction) (o : ℕ)
    (can : CanRead v o) where
  -- a test that only ASCII passes may look at one byte
  sees_view : passed test ((input_of v).next dir o) ≡ passed test (single_next v.units dir o)
  sees_view = by_kind v.kind all are can
    where
      at_place : IsUtf8 v.units → (p : ℕ) × (p ≤ length (chars v.units)) × (offset (of_utf8 v.units) p ≡ o)
          → passed test ((input_of_kind utf8 v.table v.unicode v.units).next dir o) ≡ passed test (single_next v.units dir o)
      at_place utf (p, room, here) = rw here at (sees_bytes v.units utf test low dir p room)

      by_kind : (kind : Kind) → AreOfKind kind v.units → are_bytes kind ≡ true → IsReadable kind v.units o
          → passed test ((input_of_kind kind v.table v.unicode v.units).next dir o) ≡ passed test (single_next v.units dir o)
      by_kind utf8 utf bytes there = at_place utf (place_of_boundary v.units utf o there)
      by_kind ascii low bytes there = refl
      by_kind utf16 units bytes there = absurd (cc bytes)
      by_kind ucs2 units bytes there = absurd (cc bytes)

  pub sees_byte : (b pos : ℕ) → Some b ≡ in_bytes v.kind (unit_beside v.units dir o) → pos ≡ past_unit dir o → only_if (test b) pos ≡ passed test ((input_of v).next dir o)
  sees_byte b pos e h = byte_passes v.units test dir o b pos (e ∙ in-bytes v.kind (unit_beside v.units dir o) are) h ∙ sym sees_view
