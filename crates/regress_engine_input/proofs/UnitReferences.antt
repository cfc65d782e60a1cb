-- Where no character is a pair, comparing units does what comparing characters does.
use Rattle.std.specs.Prelude.{slice_range}
use Rattle.std.proofs.Common.{◌≡◌, ℕ, ◌+◌, ◌-◌, ◌≤◌, Bool, true, false, List, ◌++◌, All, ◌<◌, length, take, drop, Some, option_map, chars, sym, ap, ap₂, ◌∙◌, subst, arith, length-append, length-take, length-drop}
use Rattle.std.specs.Str.{IsUtf8, IsAscii}
use Rattle.std.proofs.Math.Utf8.{encodes, scalars}
use Rattle.std.proofs.Math.Seq.{take-append_seam, take-add}
use Rattle.std.proofs.lemmas.List.{take-append-drop}
use Rattle.std.proofs.lemmas.Str.{encodes-append, chars-encodes, scalars-chars}
use Rattle.regress_meaning.specs.Table.{Table}
use Rattle.regress_meaning.specs.Meaning.{Direction, Forward, Backward, beside}
use Rattle.regress_meaning.specs.Offsets.{Reading, offset, of_utf8, of_ascii, of_ucs2}
use Rattle.regress_meaning.specs.Steps.{literal, repeated, same_units}
use Rattle.regress_front_nodes.specs.ByteInputs.{placed}
use Rattle.regress_meaning.specs.Inputs.{Input, Tells, context_of, utf8_input, ascii_input, ucs2_input}
use Rattle.regress_front_bytes.proofs.TextLemmas.{scalars-drop}
use Rattle.regress_engine_input.proofs.Utf8Parts.{offset-is, bytes-behind}
use Rattle.regress_engine_input.proofs.Utf8Texts.{utf8_tells}
use Rattle.regress_engine_input.proofs.UnitTexts.{single_offset, ascii_tells, ucs2_tells}
use Rattle.regress_engine_input.proofs.ByteLiterals.{SameBeside, told-right, told-left, utf8_beside, utf8_inside, scalars-take}
use Rattle.regress_engine_input.proofs.References.{placed_by-same, repeated-told}

-- by what stands beside the place
module _ (input : Input) (reading : Reading) (tells : Tells reading input) (a b p : ℕ) (order : a ≤ b) (inside : b ≤ length reading.points) (room : p ≤ length reading.points)
    (within : offset reading p ≤ length input.units)
    (same : SameBeside reading input.units (slice_range input.units (offset reading a) (offset reading b)) (slice_range reading.points a b) p) where
  repeated-units : (dir : Direction) → repeated input dir false (Some (offset reading a, offset reading b)) (offset reading p) ≡ same_units input dir (offset reading a) (offset reading b) (offset reading p)
  repeated-units dir =
      repeated-told input reading tells false dir a b p order inside room
      ∙ ap (option_map (offset reading)) (placed_by-same (context_of reading input) ws (beside (context_of reading input) dir (b - a) p))
      ∙ ap (λ n. option_map (offset reading) (placed ws (beside (context_of reading input) dir n p))) count
      ∙ sym (by_direction dir)
    where
      ws : List ℕ
      ws = slice_range reading.points a b

      us : List ℕ
      us = slice_range input.units (offset reading a) (offset reading b)

      count : b - a ≡ length ws
      count = let x = length-take (b - a) (drop a reading.points) in let y = length-drop a reading.points in omega (arith, x, y, inside)

      by_direction : (dir : Direction) → literal input dir us (offset reading p) ≡ option_map (offset reading) (placed ws (beside (context_of reading input) dir (length ws) p))
      by_direction Forward = told-right input reading us ws p room within same
      by_direction Backward = told-left input reading us ws p room within same

-- ---- bytes of UTF-8

module _ (bytes : List ℕ) (utf8 : IsUtf8 bytes) (a b : ℕ) (order : a ≤ b) where
  abbrev at : ℕ → ℕ
  at p = offset (of_utf8 bytes) p

  abbrev word : List ℕ
  word = slice_range (chars bytes) a b

  abbrev piece : List ℕ
  piece = slice_range bytes (at a) (at b)

  piece-is : piece ≡ encodes word
  piece-is =
      let rest : List ℕ = drop (b - a) (drop a (chars bytes)) in
      let behind : drop (at a) bytes ≡ encodes word ++ encodes rest =
      bytes-behind bytes utf8 a ∙ ap encodes (sym (take-append-drop (b - a) (drop a (chars bytes)))) ∙ encodes-append word rest in
      let e : b ≡ a + (b - a) = omega (arith, order) in
      let front : take b (chars bytes) ≡ take a (chars bytes) ++ word = ap (λ n. take n (chars bytes)) e ∙ take-add a (b - a) (chars bytes) in
      let x = offset-is bytes utf8 a in
      let y : at b ≡ length (encodes (take a (chars bytes)) ++ encodes word) =
      offset-is bytes utf8 b ∙ ap (λ w. length (encodes w)) front ∙ ap length (encodes-append (take a (chars bytes)) word) in
      let z = length-append (encodes (take a (chars bytes))) (encodes word) in
      let size : at b - at a ≡ length (encodes word) = omega (arith, x, y, z) in
      ap₂ take size behind ∙ take-append_seam (encodes word) (encodes rest)

  word-scalars : scalars word ≡ true
  word-scalars = scalars-take (drop a (chars bytes)) (b - a) (scalars-drop (chars bytes) a (scalars-chars bytes utf8))

  piece-utf8 : IsUtf8 piece
  piece-utf8 = (word, (word-scalars, sym piece-is))

  pub piece-read : chars piece ≡ word
  piece-read = ap chars piece-is ∙ chars-encodes word word-scalars

  pub utf8_repeated : (table : Table) (unicode : Bool) (dir : Direction) (p : ℕ) → b ≤ length (chars bytes) → p ≤ length (chars bytes)
      → repeated (utf8_input table unicode bytes) dir false (Some (at a, at b)) (at p) ≡ same_units (utf8_input table unicode bytes) dir (at a) (at b) (at p)
  utf8_repeated table unicode dir p inside room =
      repeated-units (utf8_input table unicode bytes) (of_utf8 bytes) (utf8_tells table unicode bytes utf8) a b p order inside room
      (utf8_inside bytes utf8 piece piece-utf8 p room)
      (subst (λ cs. SameBeside (of_utf8 bytes) bytes piece cs p) piece-read (utf8_beside bytes utf8 piece piece-utf8 p room)) dir

-- ---- each unit one character

module _ (units : List ℕ) (a b p : ℕ) (order : a ≤ b) (inside : b ≤ length units) (room : p ≤ length units) where
  abbrev one_each : Reading
  one_each = of_ascii units

  single_beside : SameBeside one_each units (slice_range units (offset one_each a) (offset one_each b)) (slice_range units a b) p
  single_beside =
      subst (λ us. SameBeside one_each units us (slice_range units a b) p)
      (sym (ap₂ (slice_range units) (single_offset units a (omega (arith, order, inside))) (single_offset units b inside))) (record {
        right = λ ys e. (ys, ap (λ q. drop q units) (sym here) ∙ e);
        right_back = λ es e.
            let x = ap length e in
            let y = length-append (slice_range units a b) es in
            let z = length-drop p units in
            let d = single_offset units (p + length (slice_range units a b)) (omega (arith, x, y, z, room)) in
            ((es, ap (λ q. drop q units) here ∙ e), omega (arith, d, here));
        left = λ xs e. (xs, ap (λ q. take q units) (sym here) ∙ e);
        left_back = λ es e.
            let d = single_offset units (p - length (slice_range units a b)) (omega (arith, room)) in
            ((es, ap (λ q. take q units) here ∙ e), omega (arith, d, here));
      })
    where
      here : offset one_each p ≡ p
      here = single_offset units p room

  single_inside : offset one_each p ≤ length units
  single_inside = let e = single_offset units p room in omega (arith, e)

  pub ascii_repeated : IsAscii units → (table : Table) (unicode : Bool) (dir : Direction)
      → repeated (ascii_input table unicode units) dir false (Some (offset (of_ascii units) a, offset (of_ascii units) b)) (offset (of_ascii units) p)
      ≡ same_units (ascii_input table unicode units) dir (offset (of_ascii units) a) (offset (of_ascii units) b) (offset (of_ascii units) p)
  ascii_repeated all table unicode dir =
      repeated-units (ascii_input table unicode units) (of_ascii units) (ascii_tells table unicode units all) a b p order inside room single_inside single_beside dir

  pub ucs2_repeated : All (λ u. u < 0x1_0000) units → (table : Table) (unicode : Bool) (dir : Direction)
      → repeated (ucs2_input table unicode units) dir false (Some (offset (of_ucs2 units) a, offset (of_ucs2 units) b)) (offset (of_ucs2 units) p)
      ≡ same_units (ucs2_input table unicode units) dir (offset (of_ucs2 units) a) (offset (of_ucs2 units) b) (offset (of_ucs2 units) p)
  ucs2_repeated all table unicode dir =
      repeated-units (ucs2_input table unicode units) (of_ucs2 units) (ucs2_tells table unicode units all) a b p order inside room single_inside single_beside dir
