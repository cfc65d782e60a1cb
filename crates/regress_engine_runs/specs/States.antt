-- The states that a program goes through.
use Rattle.std.specs.Prelude.{ℕ, suc, ◌+◌, ◌&&◌, List, [], ◌∷◌, Option, Some, None, if◌then◌else◌, replicate, nat_lt, nat_le}
use Rattle.regress_meaning.specs.Meaning.{Direction, Forward, Backward}
use Rattle.regress_engine_insn.specs.Instructions.{Program}

-- the marks of a group: where its range begins and where it ends, as far as either is known
abbrev pub Marks : Type 0
Marks = Option ℕ × Option ℕ

-- neither is known
abbrev pub unset : Marks
unset = (None, None)

-- the range that a group took, where both are known
abbrev pub range_of : Marks → Option (ℕ × ℕ)
range_of (None, e) = None
range_of (Some a, None) = None
range_of (Some a, Some b) = Some (a, b)

-- Everything that a program knows while it runs: the address of the next instruction, an offset, for each loop how many
-- iterations have begun and where the last one did, and for each group its marks.
pub record Whole : Type 0 where
  pub at : ℕ
  pub offset : ℕ
  pub loops : List (ℕ × ℕ)
  pub groups : List Marks

-- at the first instruction and an offset, with nothing begun and nothing known
abbrev pub first_state : Program → ℕ → Whole
first_state program o = record { at = 0; offset = o; loops = replicate program.loops (0, 0); groups = replicate program.groups unset }

-- one instruction further
abbrev pub onward : Whole → Whole
onward s = record s { at = suc s.at }

-- the marks of a group that begins at an offset: its start if read forward, else its end
abbrev pub begun : Direction → ℕ → Marks → Marks
begun Forward o m = (Some o, m.1)
begun Backward o m = (m.0, Some o)

-- the marks of a group that ends at an offset: the other mark
abbrev pub ended : Direction → ℕ → Marks → Marks
ended Forward o m = (m.0, Some o)
ended Backward o m = (Some o, m.1)

-- The groups of the second list, but those from first up to before last of the first; i is the number of the first group.
abbrev pub mixed : (i first last : ℕ) → List Marks → List Marks → List Marks
mixed i first last new [] = []
mixed i first last [] (m ∷ old) = m ∷ mixed (i + 1) first last [] old
mixed i first last (n ∷ new) (m ∷ old) = (if nat_le first i && nat_lt i last then n else m) ∷ mixed (i + 1) first last new old
