-- A law of the parts of matches.
use Rattle.std.specs.Prelude.{◌≡◌, ℕ, List, All}
use Rattle.std.specs.Str.{IsUtf8, IsCharBoundary}
use Rattle.regress_meaning.specs.Matches.{Item}
use Rattle.esgrep_rows.specs.declared.ending.Ending.{Ending}
use Rattle.esgrep_rows.specs.Lines.{body, numbered_lines}
use Rattle.esgrep_lines.specs.Parts.{touches, has_part}

-- In each line of a text a match of that text has a part where it touches what is searched of the line: this never ends inside a character.
abbrev pub TouchedLinesHaveParts : Type 0
TouchedLinesHaveParts =
    (whole : List ℕ) → IsUtf8 whole → (i : Item) → IsCharBoundary whole i.start → IsCharBoundary whole i.end → (ending : Ending)
    → All (λ line. has_part ending whole line.start (body ending line.bytes) i ≡ touches ending whole line.start (body ending line.bytes) i) (numbered_lines ending whole)
