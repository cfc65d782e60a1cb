-- What holds of each kind of input.
use Rattle.std.specs.Prelude.{slice_range}
use Rattle.std.proofs.Common.{◌≡◌, ℕ, ◌≤◌, Bool, true, false, List, length, Some, refl, ap₂, arith}
use Rattle.regress_meaning.specs.Table.{Table}
use Rattle.regress_meaning.specs.Meaning.{Direction}
use Rattle.regress_meaning.specs.Offsets.{offset, of_utf16}
use Rattle.regress_meaning.specs.Inputs.{Tells}
use Rattle.regress_meaning.specs.Steps.{repeated, same_units}
use Rattle.regress_front_nodes.specs.ByteInputs.{TellsBytes}
use Rattle.regress_front_bytes.proofs.TextLemmas.{offset_of_end, offset_is_boundary}
use Rattle.regress_engine_input.specs.Views.{View, Kind, utf8, ascii, utf16, ucs2, AreOfKind, are_bytes, input_of, input_of_kind, reading_of_kind, IsReadable, outside_pairs}
use Rattle.regress_engine_input.proofs.PlaceLemmas.{place-inside}
use Rattle.regress_engine_input.proofs.UnitTexts.{single_offset, ascii_tells, ucs2_tells}
use Rattle.regress_engine_input.proofs.Utf16Texts.{utf16_tells, utf16_end}
use Rattle.regress_engine_input.proofs.Utf8Texts.{utf8_tells}
use Rattle.regress_engine_input.proofs.ByteLiterals.{utf8_tells_bytes, ascii_tells_bytes}
use Rattle.regress_engine_input.proofs.UnitReferences.{piece-read, utf8_repeated, ascii_repeated, ucs2_repeated}
use Rattle.regress_engine_input.proofs.Utf16References.{part-read, utf16_repeated}

-- each tells its text
pub tells : (kind : Kind) (table : Table) (unicode : Bool) (units : List ℕ) → AreOfKind kind units → Tells (reading_of_kind kind units) (input_of_kind kind table unicode units)
tells utf8 table unicode units all = utf8_tells table unicode units all
tells ascii table unicode units all = ascii_tells table unicode units all
tells utf16 table unicode units all = utf16_tells table unicode units all
tells ucs2 table unicode units all = ucs2_tells table unicode units all

-- an input has the table and the mode that it shows
pub table-is : (v : View) → (input_of v).table ≡ v.table
table-is v = by_kind v.kind
  where
    by_kind : (kind : Kind) → (input_of_kind kind v.table v.unicode v.units).table ≡ v.table
    by_kind utf8 = refl
    by_kind ascii = refl
    by_kind utf16 = refl
    by_kind ucs2 = refl

pub unicode-is : (v : View) → (input_of v).unicode ≡ v.unicode
unicode-is v = by_kind v.kind
  where
    by_kind : (kind : Kind) → (input_of_kind kind v.table v.unicode v.units).unicode ≡ v.unicode
    by_kind utf8 = refl
    by_kind ascii = refl
    by_kind utf16 = refl
    by_kind ucs2 = refl

-- the last place has the number of units as its offset
pub end : (kind : Kind) (units : List ℕ) → AreOfKind kind units → offset (reading_of_kind kind units) (length (reading_of_kind kind units).points) ≡ length units
end utf8 units all = offset_of_end units all
end ascii units all = single_offset units (length units) (omega arith)
end utf16 units all = utf16_end units all
end ucs2 units all = single_offset units (length units) (omega arith)

-- characters may be read at each place
pub readable : (kind : Kind) (table : Table) (unicode : Bool) (units : List ℕ) → AreOfKind kind units → (p : ℕ) → p ≤ length (reading_of_kind kind units).points → IsReadable kind units (offset (reading_of_kind kind units) p)
readable utf8 table unicode units all p room = offset_is_boundary units all p
readable ascii table unicode units all p room = rw (single_offset units p room) room
readable utf16 table unicode units all p room = place-inside (of_utf16 units) (utf16_tells table unicode units all).rise (length units) (utf16_end units all) p room
readable ucs2 table unicode units all p room = rw (single_offset units p room) room

-- the inputs of bytes tell the bytes of characters
pub tells_bytes : (kind : Kind) (table : Table) (unicode : Bool) (units : List ℕ) → AreOfKind kind units → are_bytes kind ≡ true
    → TellsBytes (reading_of_kind kind units) (input_of_kind kind table unicode units)
tells_bytes utf8 table unicode units all are = utf8_tells_bytes table unicode units all
tells_bytes ascii table unicode units all are = ascii_tells_bytes table unicode units all
tells_bytes utf16 table unicode units all are = absurd cc
tells_bytes ucs2 table unicode units all are = absurd cc

-- where case is regarded a reference goes by its units
pub repeats : (kind : Kind) (table : Table) (unicode : Bool) (units : List ℕ) → AreOfKind kind units → (dir : Direction) (a b p : ℕ) → a ≤ b
    → b ≤ length (reading_of_kind kind units).points → p ≤ length (reading_of_kind kind units).points
    → repeated (input_of_kind kind table unicode units) dir false (Some (offset (reading_of_kind kind units) a, offset (reading_of_kind kind units) b)) (offset (reading_of_kind kind units) p)
    ≡ outside_pairs kind units (same_units (input_of_kind kind table unicode units) dir (offset (reading_of_kind kind units) a) (offset (reading_of_kind kind units) b) (offset (reading_of_kind kind units) p))
repeats utf8 table unicode units all dir a b p order inside room = utf8_repeated units all a b order table unicode dir p inside room
repeats ascii table unicode units all dir a b p order inside room = ascii_repeated units a b p order inside room all table unicode dir
repeats utf16 table unicode units all dir a b p order inside room = utf16_repeated units all table unicode dir a b p order inside room
repeats ucs2 table unicode units all dir a b p order inside room = ucs2_repeated units a b p order inside room all table unicode dir

-- what stands between two places, read as a text of its own, has the code points between them
pub part_points : (kind : Kind) (units : List ℕ) → AreOfKind kind units → (a b : ℕ) → a ≤ b → b ≤ length (reading_of_kind kind units).points
    → (reading_of_kind kind (slice_range units (offset (reading_of_kind kind units) a) (offset (reading_of_kind kind units) b))).points
    ≡ slice_range (reading_of_kind kind units).points a b
part_points utf8 units all a b order room = piece-read units all a b order
part_points ascii units all a b order room = ap₂ (slice_range units) (single_offset units a (omega (arith, order, room))) (single_offset units b room)
part_points utf16 units all a b order room = part-read units all a b order
part_points ucs2 units all a b order room = ap₂ (slice_range units) (single_offset units a (omega (arith, order, room))) (single_offset units b room)
