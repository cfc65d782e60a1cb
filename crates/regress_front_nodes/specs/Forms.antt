-- What a tree is by its form.
use Rattle.std.specs.Prelude.{ℕ, ◌+◌, Bool, true, false, List, [], ◌∷◌, if◌then◌else◌, reverse, max}
use Rattle.regress_front_nodes.specs.Trees.{Tree, empty, goal, char, bytes, byte_set, char_set, cat, no_part, alt, any, any_in_line, line_start, line_end, boundary, capture, back, bracket, string_set, submatch, loop, single_loop, cat_of}

-- it is `Empty`
abbrev pub is_empty : Tree → Bool
is_empty empty = true
is_empty _ = false

-- it is a `Cat`
abbrev pub is_cat : Tree → Bool
is_cat (cat a b) = true
is_cat no_part = true
is_cat _ = false

-- its kind has no parts
abbrev pub is_leaf : Tree → Bool
is_leaf (cat a b) = false
is_leaf no_part = false
is_leaf (alt a b) = false
is_leaf (capture k name a) = false
is_leaf (submatch kind first last a) = false
is_leaf (loop a first last least most greedy) = false
is_leaf (single_loop a least most greedy) = false
is_leaf empty = true
is_leaf goal = true
is_leaf (char c) = true
is_leaf (bytes bs) = true
is_leaf (byte_set bs) = true
is_leaf (char_set cs) = true
is_leaf any = true
is_leaf any_in_line = true
is_leaf (line_start multiline) = true
is_leaf (line_end multiline) = true
is_leaf (boundary inverted folded) = true
is_leaf (back k icase) = true
is_leaf (bracket inverted intervals) = true
is_leaf (string_set strings icase) = true

-- the parts of a `Cat`
abbrev pub parts : Tree → List Tree
parts (cat a b) = a ∷ parts b
parts _ = []

-- a `Cat` with its parts from the last to the first, and any other tree as it is
abbrev pub turned : Tree → Tree
turned (cat a b) = cat_of (reverse (parts (cat a b)))
turned t = t

-- how many nodes stand above the deepest one
abbrev pub nesting : Tree → ℕ
nesting (cat a b) = max (nesting a + 1) (nesting b)
nesting (alt a b) = max (nesting a) (nesting b) + 1
nesting (capture k name a) = nesting a + 1
nesting (submatch kind first last a) = nesting a + 1
nesting (loop a first last least most greedy) = nesting a + 1
nesting (single_loop a least most greedy) = nesting a + 1
nesting empty = 0
nesting goal = 0
nesting (char c) = 0
nesting (bytes bs) = 0
nesting (byte_set bs) = 0
nesting (char_set cs) = 0
nesting no_part = 0
nesting any = 0
nesting any_in_line = 0
nesting (line_start multiline) = 0
nesting (line_end multiline) = 0
nesting (boundary inverted folded) = 0
nesting (back k icase) = 0
nesting (bracket inverted intervals) = 0
nesting (string_set strings icase) = 0

-- deeper than this no copy of a node is made
abbrev pub deepest_copy : ℕ
deepest_copy = 1280

-- the tree with nothing in the places right below it
abbrev pub shell : Tree → Tree
shell (cat a b) = cat empty (shell b)
shell (alt a b) = alt empty empty
shell (capture k name a) = capture k name empty
shell (submatch kind first last a) = submatch kind first last empty
shell (loop a first last least most greedy) = loop empty first last least most greedy
shell (single_loop a least most greedy) = single_loop empty least most greedy
shell t = t

-- parts one after another: none is the empty text, and one is itself
abbrev pub cat_made : List Tree → Tree
cat_made [] = empty
cat_made (t ∷ []) = t
cat_made (t ∷ u ∷ ts) = cat_of (t ∷ u ∷ ts)

-- in the order of reading
abbrev pub in_reading_order : {A : Type 0} → Bool → List A → List A
in_reading_order backward xs = if backward then reverse xs else xs
