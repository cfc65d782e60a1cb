-- What is put out for one text.
use Rattle.std.specs.Prelude.{ℕ, zero, suc, ◌+◌, nat_lt, min, List, [], ◌∷◌, length, if◌then◌else◌}
use Rattle.esgrep_rows.specs.declared.options.Options.{Options}
use Rattle.esgrep_rows.specs.declared.options.Mode.{Mode}
use Rattle.esgrep_rows.specs.declared.options.Mode.TheVariants.{Lines, Matches, Count, WithMatch, WithoutMatch}
use Rattle.esgrep_rows.specs.Lines.{numbered_lines}
use Rattle.esgrep_rows.specs.Found.{Seen}
use Rattle.esgrep_rows.specs.Rows.{name_row, count_row, is_selected, selected_lines, rows, beginning}

-- what is put out where so many lines are selected and none is shown: their number, or a name where some or none are
abbrev pub summary : Options → List ℕ → Mode → ℕ → List ℕ
summary o name Count n = count_row o name n
summary o name WithMatch n = if nat_lt 0 n then name_row o name else []
summary o name WithoutMatch n = if nat_lt 0 n then [] else name_row o name
summary o name mode n = []

-- the rows of all lines of a text
abbrev pub all_rows : Options → Seen → List ℕ → List ℕ → List ℕ
all_rows o seen name text = rows o seen name o.most beginning (numbered_lines o.ending text)

-- the summary of a text
abbrev pub summary_of : Options → Seen → List ℕ → List ℕ → List ℕ
summary_of o seen name text = summary o name o.mode (length (selected_lines o seen text))

-- What is put out for a text of this name: the rows of its lines, or a summary.
abbrev pub output_of : Options → Mode → Seen → List ℕ → List ℕ → List ℕ
output_of o Lines seen name text = all_rows o seen name text
output_of o Matches seen name text = all_rows o seen name text
output_of o mode seen name text = summary o name mode (length (selected_lines o seen text))

-- how many selected lines are told of: all, or where only that there is one matters, at most one
abbrev pub told_count : Mode → ℕ → ℕ
told_count Lines n = n
told_count Matches n = n
told_count Count n = n
told_count mode n = min 1 n

-- how many lines have to be counted at most to tell that, where so many may be selected
abbrev pub needed : Mode → ℕ → ℕ
needed Lines most = most
needed Matches most = most
needed Count most = most
needed mode most = min most 1

-- how many selected lines of a text are told of
abbrev pub count_of : Options → Seen → List ℕ → ℕ
count_of o seen text = told_count o.mode (length (selected_lines o seen text))

-- how many of the lines from an offset on are selected, counted up to so many
unfoldable pub count_from : Options → Seen → ℕ → ℕ → List (List ℕ) → ℕ
count_from o seen zero start lines = 0
count_from o seen (suc n) start [] = 0
count_from o seen (suc n) start (line ∷ lines) =
    if is_selected o seen start line then count_from o seen n (start + length line) lines + 1 else count_from o seen (suc n) (start + length line) lines
