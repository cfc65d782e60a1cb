-- Texts that are searched piece by piece.
use Rattle.std.specs.Prelude.{◌≡◌, ◌≤◌, ℕ, ◌+◌, ◌-◌, ◌^◌, Bool, true, false, List, [], ◌++◌, length}
use Rattle.esgrep_rows.specs.declared.options.Options.{Options}
use Rattle.esgrep_rows.specs.declared.options.Mode.{Mode}
use Rattle.esgrep_rows.specs.declared.options.Mode.TheVariants.{Lines, Matches}
use Rattle.esgrep_rows.specs.Lines.{byte_of, is_last}
use Rattle.esgrep_rows.specs.Found.{Find, but_for}
use Rattle.esgrep_rows.specs.Rows.{selected_lines}
use Rattle.esgrep_lines.specs.Output.{all_rows}

-- what is found in a text does not depend on where it stands
abbrev pub IsAnywhere : Find → Type 0
IsAnywhere find = (start other : ℕ) → (text : List ℕ) → find start text ≡ find other text

-- the first piece of a text ends where a line does, and of both no more lines can be selected than may be
abbrev pub ArePieces : Options → List ℕ → List ℕ → Type 0
ArePieces o front rest = (is_last (byte_of o.ending) front ≡ true) × (length front + length rest ≤ o.most)

-- the rows of a text are those of its pieces, one behind the other
abbrev pub RowsGoByPieces : Options → Find → List ℕ → List ℕ → List ℕ → Type 0
RowsGoByPieces o find name front rest =
    let seen = but_for [] find in all_rows o seen name (front ++ rest) ≡ all_rows o seen name front ++ all_rows o seen name rest

-- as many of its lines are selected as of both together
abbrev pub CountGoesByPieces : Options → Find → List ℕ → List ℕ → Type 0
CountGoesByPieces o find front rest =
    let seen = but_for [] find in
    length (selected_lines o seen (front ++ rest)) ≡ length (selected_lines o seen front) + length (selected_lines o seen rest)

-- rows of lines or of matches are put out
abbrev pub puts_rows : Mode → Bool
puts_rows Lines = true
puts_rows Matches = true
puts_rows _ = false

-- no line near a selected one is put out, no mark between lines, no number and no offset
abbrev pub KnowsNoPlace : Options → Type 0
KnowsNoPlace o = (o.before ≡ 0) × (o.after ≡ 0) × (o.parts_groups ≡ false) × (o.numbers ≡ false) × (o.offsets ≡ false)

-- no line is one too many, and rows, where any are put out, know no place
abbrev pub MayGoByPieces : Options → Type 0
MayGoByPieces o = (o.most ≡ 2 ^ 64 - 1) × (puts_rows o.mode ≡ true → KnowsNoPlace o)
