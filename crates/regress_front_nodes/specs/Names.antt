-- The names of the capture groups of a tree.
use Rattle.std.specs.Prelude.{ℕ, suc, ◌-◌, List, [], ◌++◌, length, map, chars, replicate, slice_set, unwrap_or, Vec}
use Rattle.std.specs.String.{string_bytes}
use Rattle.std.specs.declared.alloc.Global.{Global}
use Rattle.std.specs.declared.string.String.{String}
use Rattle.regress_front_nodes.specs.Trees.{Tree, empty, goal, char, bytes, byte_set, char_set, cat, no_part, alt, any, any_in_line, line_start, line_end, boundary, capture, back, bracket, string_set, submatch, loop, single_loop}

-- names, and empty ones behind them up to the place of a number
abbrev pub padded : ℕ → List (List ℕ) → List (List ℕ)
padded k names = names ++ replicate (suc k - length names) []

-- names with one in the place of its number
abbrev pub placed : ℕ → List ℕ → List (List ℕ) → List (List ℕ)
placed k name names = slice_set (padded k names) k name

-- names, and then those of the tree's groups, each in the place of its number, empty where it has none
abbrev pub names_with : List (List ℕ) → Tree → List (List ℕ)
names_with names (cat a b) = names_with (names_with names a) b
names_with names (alt a b) = names_with (names_with names a) b
names_with names (capture k name a) = names_with (placed k (unwrap_or name []) names) a
names_with names (submatch kind first last a) = names_with names a
names_with names (loop a first last least most greedy) = names_with names a
names_with names (single_loop a least most greedy) = names_with names a
names_with names empty = names
names_with names goal = names
names_with names (char c) = names
names_with names (bytes bs) = names
names_with names (byte_set bs) = names
names_with names (char_set cs) = names
names_with names no_part = names
names_with names any = names
names_with names any_in_line = names
names_with names (line_start multiline) = names
names_with names (line_end multiline) = names
names_with names (boundary inverted folded) = names
names_with names (back k icase) = names
names_with names (bracket inverted intervals) = names
names_with names (string_set strings icase) = names

-- The name of each capture group of the tree by its number, empty where it has none. In a tree whose groups are numbered, each
-- once, there is one for each group, that by `name_by_number`.
abbrev pub names_in : Tree → List (List ℕ)
names_in t = names_with [] t

-- the code points of names
abbrev pub name_texts : Vec (String Global) Global → List (List ℕ)
name_texts names = map (λ name. chars (string_bytes name)) names.items
