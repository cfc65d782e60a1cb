-- The lines of a text.
use Rattle.std.specs.Prelude.{◌≡◌, ℕ, ◌+◌, ◌-◌, ◌<◌, ◌≤◌, ◌==◌, ◌&&◌, Bool, nat_lt, List, [], ◌∷◌, ◌++◌, length, take, drop, slice_index, Option, IfSome, if◌then◌else◌}
use Rattle.std.specs.Str.{IsUtf8}
use Rattle.esgrep_rows.specs.declared.ending.Ending.{Ending}
use Rattle.esgrep_rows.specs.declared.ending.Ending.TheVariants.{Newline, Nul}

-- the byte that ends a line
abbrev pub byte_of : Ending → ℕ
byte_of Newline = 0x0A
byte_of Nul = 0

-- a byte in front of the first of some lines
abbrev pub in_front : ℕ → List (List ℕ) → List (List ℕ)
in_front b [] = (b ∷ []) ∷ []
in_front b (line ∷ lines) = (b ∷ line) ∷ lines

-- The lines of a text, each with the byte that ends it; the last may be without one.
unfoldable pub lines : ℕ → List ℕ → List (List ℕ)
lines end [] = []
lines end (b ∷ text) = if b == end then (b ∷ []) ∷ lines end text else in_front b (lines end text)

-- the last byte of a text is this one
abbrev pub is_last : ℕ → List ℕ → Bool
is_last b text = nat_lt 0 (length text) && (slice_index text (length text - 1) == b)

-- how many bytes of a line are searched: all but the byte that ends it, and but a `\r` before a `\n`
abbrev pub body_len : Ending → List ℕ → ℕ
body_len Newline line =
    if is_last 0x0A line then (if is_last 0x0D (take (length line - 1) line) then length line - 2 else length line - 1) else length line
body_len Nul line = if is_last 0 line then length line - 1 else length line

-- What is searched of a line.
abbrev pub body : Ending → List ℕ → List ℕ
body ending line = take (body_len ending line) line

-- a part of a text, which is UTF-8, ends at an offset of the text, but not its first, or before; without an offset any part does
abbrev pub EndsBefore : List ℕ → Option ℕ → List ℕ → Type 0
EndsBefore text at part =
    IsUtf8 part × (front : List ℕ) × (rest : List ℕ) × (text ≡ front ++ part ++ rest) × IfSome at (λ end. (length front + length part ≤ end) × (0 < end))

-- how a line ends where it is put out: as in the text, and the last one with the byte too
abbrev pub tail : Ending → List ℕ → List ℕ
tail ending line = drop (body_len ending line) line ++ (if is_last (byte_of ending) line then [] else byte_of ending ∷ [])

-- A line of a text: its number, from 1, the offset of its first byte, and its bytes with the one that ends it.
pub record Line : Type 0 where
  pub number : ℕ
  pub start : ℕ
  pub bytes : List ℕ

-- lines with their numbers and offsets, from these on
unfoldable pub numbered : ℕ → ℕ → List (List ℕ) → List Line
numbered number start [] = []
numbered number start (line ∷ lines) =
    record { number = number; start = start; bytes = line } ∷ numbered (number + 1) (start + length line) lines

-- the lines of a text with their numbers and offsets
abbrev pub numbered_lines : Ending → List ℕ → List Line
numbered_lines ending text = numbered 1 0 (lines (byte_of ending) text)
