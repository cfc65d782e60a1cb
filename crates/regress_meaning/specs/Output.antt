-- What the program writes: a line for each item.
use Rattle.std.specs.Prelude.{ℕ, List, ◌++◌, Option, Some, None, decimal, codes, flat_map}
use Rattle.regress_meaning.specs.Matches.{Item}

-- `start..end`, in decimal
abbrev pub range_text : ℕ × ℕ → List ℕ
range_text range = decimal range.0 ++ codes ".." ++ decimal range.1

-- a space, and the range of a group or `-`
abbrev pub group_text : Option (ℕ × ℕ) → List ℕ
group_text None = codes " -"
group_text (Some range) = codes " " ++ range_text range

-- The line of an item told in offsets.
abbrev pub line_of : Item → List ℕ
line_of i = range_text (i.start, i.end) ++ flat_map group_text i.groups ++ codes "\n"

-- The lines of a list of items told in offsets.
abbrev pub lines_of : List Item → List ℕ
lines_of items = flat_map line_of items
