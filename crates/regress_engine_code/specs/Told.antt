-- The characters of ASCII that classes match, told by sets.
use Rattle.std.specs.Prelude.{◌≡◌, ◌<◌, ℕ, Bool, List, length, slice_index_or}
use Rattle.regress_front_bytes.specs.Bitmaps.{ascii_bitmap_contains}
use Rattle.regress_front_bytes.specs.declared.bitmaps.AsciiBitmap.{AsciiBitmap}
use Rattle.regress_front_nodes.specs.TreeMeaning.{bracket_has}
use Rattle.regress_front_nodes.specs.declared.node.BracketContents.{BracketContents}
use Rattle.regress_engine_insn.specs.ProgramViews.{bracket_ends}

-- a set has the characters of ASCII that intervals hold, or those that they do not hold
abbrev pub HasAscii : Bool × List (ℕ × ℕ) → AsciiBitmap → Type 0
HasAscii ends ascii = (c : ℕ) → c < 0x80 → ascii_bitmap_contains ascii c ≡ bracket_has ends.0 ends.1 c

-- a set has the characters of ASCII that a class matches
abbrev pub IsToldAscii : BracketContents → AsciiBitmap → Type 0
IsToldAscii contents ascii = HasAscii (bracket_ends contents) ascii

-- Sets have the characters of ASCII of classes, each of one.
pub record AreToldAscii (classes : List (Bool × List (ℕ × ℕ))) (told : List AsciiBitmap) : Type 0 where
  pub count : length told ≡ length classes
  pub each : (k : ℕ) → k < length classes → (class : Bool × List (ℕ × ℕ)) (ascii : AsciiBitmap) → class ≡ slice_index_or classes k class
      → ascii ≡ slice_index_or told k ascii → HasAscii class ascii
