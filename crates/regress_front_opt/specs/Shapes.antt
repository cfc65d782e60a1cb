-- What passes look at and make of the parts of a `Cat`.
use Rattle.std.specs.Prelude.{◌≡◌, ℕ, ◌≤◌, ◌+◌, Bool, true, false, ◌&&◌, ◌||◌, List, [], ◌∷◌, ◌++◌, length, if◌then◌else◌}
use Rattle.regress_front_nodes.specs.Trees.{Tree, empty, goal, char, bytes, byte_set, char_set, cat, no_part, alt, any, any_in_line, line_start, line_end, boundary, capture, back, bracket, string_set, submatch, loop, single_loop}
use Rattle.regress_front_nodes.specs.Forms.{is_empty, is_cat, parts, nesting, deepest_copy}
use Rattle.regress_front_nodes.specs.WellFormed.{group_ids}

-- it is a `Cat` or `Empty`
abbrev pub is_loose : Tree → Bool
is_loose t = is_cat t || is_empty t

-- the parts, with those of a `Cat` in its place, and without `Empty`
abbrev pub flattened : List Tree → List Tree
flattened [] = []
flattened (t ∷ ts) = if is_cat t then parts t ++ flattened ts else (if is_empty t then flattened ts else t ∷ flattened ts)

-- how many parts there are at most where a part gives its own
abbrev pub room_of : Tree → ℕ
room_of t = if is_cat t then length (parts t) else 1

-- the same of all parts
abbrev pub room_of_all : List Tree → ℕ
room_of_all [] = 0
room_of_all (t ∷ ts) = room_of t + room_of_all ts

-- It holds neither a capture group nor the `Goal`.
abbrev pub is_plain : Tree → Bool
is_plain goal = false
is_plain (cat a b) = is_plain a && is_plain b
is_plain (alt a b) = is_plain a && is_plain b
is_plain (capture k name a) = false
is_plain (submatch kind first last a) = is_plain a
is_plain (loop a first last least most greedy) = is_plain a
is_plain (single_loop a least most greedy) = is_plain a
is_plain empty = true
is_plain (char c) = true
is_plain (bytes bs) = true
is_plain (byte_set bs) = true
is_plain (char_set cs) = true
is_plain no_part = true
is_plain any = true
is_plain any_in_line = true
is_plain (line_start multiline) = true
is_plain (line_end multiline) = true
is_plain (boundary inverted folded) = true
is_plain (back k icase) = true
is_plain (bracket inverted intervals) = true
is_plain (string_set strings icase) = true

-- It holds neither a capture group nor a `Loop`.
abbrev pub is_flat : Tree → Bool
is_flat (cat a b) = is_flat a && is_flat b
is_flat (alt a b) = is_flat a && is_flat b
is_flat (capture k name a) = false
is_flat (submatch kind first last a) = is_flat a
is_flat (loop a first last least most greedy) = false
is_flat (single_loop a least most greedy) = is_flat a
is_flat empty = true
is_flat goal = true
is_flat (char c) = true
is_flat (bytes bs) = true
is_flat (byte_set bs) = true
is_flat (char_set cs) = true
is_flat no_part = true
is_flat any = true
is_flat any_in_line = true
is_flat (line_start multiline) = true
is_flat (line_end multiline) = true
is_flat (boundary inverted folded) = true
is_flat (back k icase) = true
is_flat (bracket inverted intervals) = true
is_flat (string_set strings icase) = true

-- it holds no capture group, and is not nested too deep for a copy
abbrev pub MayBeUnrolled : Tree → Type 0
MayBeUnrolled t = (group_ids t ≡ []) × (nesting t ≤ deepest_copy)

-- Literals that stand side by side are joined, in the order of the text, or none is.
pub data Joins (ts : List Tree) : List Tree → Type 0 where
  -- none
  as_they_are : Joins ts ts
  -- two, after others
  joined_more : (us vs : List Tree) (xs ys : List ℕ) → Joins ts (us ++ bytes xs ∷ bytes ys ∷ vs) → Joins ts (us ++ bytes (xs ++ ys) ∷ vs)
