-- The rows that are put out for lines.
use Rattle.std.specs.Prelude.{ℕ, ◌+◌, ◌-◌, ◌&&◌, ◌||◌, Bool, true, false, not, nat_lt, List, [], ◌∷◌, ◌++◌, length, drop, flat_map, filter, take, decimal, codes, if◌then◌else◌}
use Rattle.esgrep_rows.specs.declared.options.Options.{Options}
use Rattle.esgrep_rows.specs.Lines.{Line, body, tail, byte_of, numbered_lines}
use Rattle.esgrep_rows.specs.Found.{Found, Seen, rewritten}
use Rattle.esgrep_rows.specs.Views.{puts_matches}

-- a text between the codes that a terminal shows it in a colour by, where colours are wanted
abbrev pub painted : Options → List ℕ → List ℕ → List ℕ
painted o colour text = if o.colored then codes "\u{1b}[" ++ colour ++ codes "m" ++ text ++ codes "\u{1b}[m" else text

-- a mark behind a field
abbrev pub marked : Options → List ℕ → List ℕ
marked o mark = painted o (codes "36") mark

-- a number, and the mark behind it
abbrev pub number_field : Options → List ℕ → ℕ → List ℕ
number_field o mark n = painted o (codes "32") (decimal n) ++ marked o mark

-- the name of what is searched, and the mark behind it, or a NUL
abbrev pub name_field : Options → List ℕ → List ℕ → List ℕ
name_field o mark name = painted o (codes "35") name ++ (if o.nul_behind_names then 0 ∷ [] else marked o mark)

-- What stands in front of a row: a name, the number of a line and an offset, as far as they are wanted.
abbrev pub front : Options → List ℕ → List ℕ → ℕ → ℕ → List ℕ
front o mark name number offset =
    (if o.names then name_field o mark name else []) ++ (if o.numbers then number_field o mark number else [])
    ++ (if o.offsets then number_field o mark offset else [])

-- what is found in the line that begins at an offset
abbrev pub found_at_line : Options → Seen → ℕ → List ℕ → List Found
found_at_line o seen start line = seen.find start (body o.ending line)

-- A line is selected: it has a match, or by `-v` none. One whose search was given up is not.
abbrev pub is_selected : Options → Seen → ℕ → List ℕ → Bool
is_selected o seen start line =
    let has_match = nat_lt 0 (length (found_at_line o seen start line)) in not (seen.is_given_up start) && (if o.invert then not has_match else has_match)

-- The lines of a text that are selected, at most so many as are wanted.
abbrev pub selected_lines : Options → Seen → List ℕ → List Line
selected_lines o seen text = take o.most (filter (λ line. is_selected o seen line.start line.bytes) (numbered_lines o.ending text))

-- the row of a line, with this text in the place of its own
abbrev pub line_row : Options → List ℕ → List ℕ → Line → List ℕ → List ℕ
line_row o mark name line text = front o mark name line.number line.start ++ text ++ tail o.ending line.bytes

-- the row of a match of a line, by `-o`; an empty match has none
abbrev pub match_row : Options → List ℕ → Line → Found → List ℕ
match_row o name line f =
    if nat_lt f.item.start f.item.end
    then front o (codes ":") name line.number (line.start + f.item.start) ++ f.shown ++ byte_of o.ending ∷ []
    else []

-- what is put out for a selected line in which this is found: the line, with what is shown where that is asked for, or its matches
abbrev pub selected_row : Options → List ℕ → Line → List Found → List ℕ
selected_row o name line founds =
    let text = body o.ending line.bytes in
    if puts_matches o.mode then flat_map (match_row o name line) founds
    else line_row o (codes ":") name line (if o.rewrites then rewritten text founds else text)

-- what is put out for a line near a selected one
abbrev pub near_row : Options → List ℕ → Line → List ℕ
near_row o name line = if puts_matches o.mode then [] else line_row o (codes "-") name line (body o.ending line.bytes)

-- How far the rows are: how many lines behind a selected one are still to be put out, the lines that may stand before the next
-- selected one, whether any was put out, and whether lines were left out since.
pub record Progress : Type 0 where
  pub behind : ℕ
  pub held : List Line
  pub is_begun : Bool
  pub has_gap : Bool

-- what stands before a selected line: `--` between groups, and the lines before it
abbrev pub before_row : Options → List ℕ → Progress → List ℕ
before_row o name p =
    (if o.parts_groups && p.is_begun && p.has_gap then marked o (codes "--") ++ codes "\n" else []) ++ flat_map (near_row o name) p.held

-- before the first line
abbrev pub beginning : Progress
beginning = record { behind = 0; held = []; is_begun = false; has_gap = false }

-- so many lines are to be put out behind one that was
abbrev pub following : ℕ → Progress
following behind = record { behind = behind; held = []; is_begun = true; has_gap = false }

-- a line is held back; of those that are, so many as may stand before a selected one stay
abbrev pub held_back : ℕ → Progress → Line → Progress
held_back before p line =
    let held = p.held ++ line ∷ [] in
    record { behind = 0; held = drop (length held - before) held; is_begun = p.is_begun; has_gap = p.has_gap || nat_lt before (length held) }

-- lines are left out, and none is held back
abbrev pub left_out : Progress → Progress
left_out p = record { behind = 0; held = []; is_begun = p.is_begun; has_gap = true }

-- The rows of lines from where they are on, of which so many may still be selected.
unfoldable pub rows : Options → Seen → List ℕ → ℕ → Progress → List Line → List ℕ
rows o seen name most p [] = []
rows o seen name most p (line ∷ lines) =
    if nat_lt 0 most && is_selected o seen line.start line.bytes
    then before_row o name p ++ selected_row o name line (found_at_line o seen line.start line.bytes) ++ rows o seen name (most - 1) (following o.after) lines
    else if nat_lt 0 p.behind then near_row o name line ++ rows o seen name most (following (p.behind - 1)) lines
    else rows o seen name most (held_back o.before p line) lines

-- the name of what is searched, on a line of its own
abbrev pub name_row : Options → List ℕ → List ℕ
name_row o name = painted o (codes "35") name ++ (if o.nul_behind_names then 0 ∷ [] else codes "\n")

-- how many lines were selected, in a row
abbrev pub count_row : Options → List ℕ → ℕ → List ℕ
count_row o name count = (if o.names then name_field o (codes ":") name else []) ++ decimal count ++ codes "\n"
