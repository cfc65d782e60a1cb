-- Inputs of bytes: where the bytes of whole characters stand.
use Rattle.std.specs.Prelude.{◌≡◌, ℕ, ◌≤◌, List, length, Option, Some, None, option_map, chars, if◌then◌else◌}
use Rattle.regress_meaning.specs.Text.{same_text}
use Rattle.regress_meaning.specs.Meaning.{Direction, beside}
use Rattle.regress_meaning.specs.Offsets.{Reading, offset}
use Rattle.regress_meaning.specs.Inputs.{Input, context_of}
use Rattle.regress_meaning.specs.Steps.{literal}
use Rattle.regress_front_nodes.specs.WellFormed.{AreCharacters}

-- the place behind what stands beside one, where that is the text
abbrev pub placed : List ℕ → Option (List ℕ × ℕ) → Option ℕ
placed cs None = None
placed cs (Some (ds, q)) = if same_text cs ds then Some q else None

-- Bytes of whole characters stand beside the offset of a place just where the characters stand beside the place.
pub record TellsBytes (reading : Reading) (input : Input) : Type 0 where
  pub literal : (dir : Direction) (bs : List ℕ) → AreCharacters bs → (p : ℕ) → p ≤ length reading.points
      → literal input dir bs (offset reading p) ≡ option_map (offset reading) (placed (chars bs) (beside (context_of reading input) dir (length (chars bs)) p))
