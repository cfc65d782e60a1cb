-- How large a tree is.
use Rattle.std.specs.Prelude.{ℕ, ◌+◌, ◌-◌, ◌*◌, ◌&&◌, length, chars, sum_by, nat_le, min, if◌then◌else◌}
use Rattle.regress_front_nodes.specs.Trees.{Tree, empty, goal, char, bytes, byte_set, char_set, cat, no_part, alt, any, any_in_line, line_start, line_end, boundary, capture, back, bracket, string_set, submatch, loop, single_loop}

-- How many nodes there are. A literal counts as its characters, and a set of strings also for each string and for each
-- of their code points. A `Cat` is counted at the end of its parts.
abbrev pub size : Tree → ℕ
size (bytes bs) = length (chars bs)
size (cat a b) = size a + size b
size (alt a b) = size a + size b + 1
size (capture k name a) = size a + 1
size (string_set strings icase) = 1 + length strings + sum_by length strings
size (submatch kind first last a) = size a + 1
size (loop a first last least most greedy) = size a + 1
size (single_loop a least most greedy) = size a + 1
size empty = 1
size goal = 1
size (char c) = 1
size (byte_set bs) = 1
size (char_set cs) = 1
size no_part = 1
size any = 1
size any_in_line = 1
size (line_start multiline) = 1
size (line_end multiline) = 1
size (boundary inverted folded) = 1
size (back k icase) = 1
size (bracket inverted intervals) = 1

-- how many `Loop`s there are
abbrev pub loops : Tree → ℕ
loops (cat a b) = loops a + loops b
loops (alt a b) = loops a + loops b
loops (capture k name a) = loops a
loops (submatch kind first last a) = loops a
loops (loop a first last least most greedy) = loops a + 1
loops (single_loop a least most greedy) = loops a
loops empty = 0
loops goal = 0
loops (char c) = 0
loops (bytes bs) = 0
loops (byte_set bs) = 0
loops (char_set cs) = 0
loops no_part = 0
loops any = 0
loops any_in_line = 0
loops (line_start multiline) = 0
loops (line_end multiline) = 0
loops (boundary inverted folded) = 0
loops (back k icase) = 0
loops (bracket inverted intervals) = 0
loops (string_set strings icase) = 0

-- a body is unrolled at most this often
abbrev pub most_unrolled : ℕ
most_unrolled = 5

-- a body of more nodes is not unrolled
abbrev pub largest_unrolled : ℕ
largest_unrolled = 1280

-- how many nodes unrolling may add to a loop that matches at least so often a body of so many nodes: a copy for each of these
-- times, and the end of the `Cat` around them
abbrev pub unrolling : (least body : ℕ) → ℕ
unrolling least body = if nat_le 1 least && nat_le least most_unrolled then least * min body largest_unrolled + 1 else 0

-- How far a tree may spread: its nodes, those that unrolling adds, and one for each group that a loop resets.
abbrev pub spread : Tree → ℕ
spread (bytes bs) = length (chars bs)
spread (cat a b) = spread a + spread b
spread (alt a b) = spread a + spread b + 1
spread (capture k name a) = spread a + 1
spread (string_set strings icase) = 1 + length strings + sum_by length strings
spread (submatch kind first last a) = spread a + 1
spread (loop a first last least most greedy) = spread a + 1 + (last - first) + unrolling least (spread a)
spread (single_loop a least most greedy) = spread a + 1
spread empty = 1
spread goal = 1
spread (char c) = 1
spread (byte_set bs) = 1
spread (char_set cs) = 1
spread no_part = 1
spread any = 1
spread any_in_line = 1
spread (line_start multiline) = 1
spread (line_end multiline) = 1
spread (boundary inverted folded) = 1
spread (back k icase) = 1
spread (bracket inverted intervals) = 1
