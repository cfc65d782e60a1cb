-- A number that each rule lowers, so that rounds of rewriting end, and a number that none raises, which bounds the size.
use Rattle.std.specs.Prelude.{ℕ, ◌+◌, ◌*◌, if◌then◌else◌, nat_le, length, chars}
use Rattle.regress_front_nodes.specs.Trees.{Tree, empty, goal, char, bytes, byte_set, char_set, cat, no_part, alt, any, any_in_line, line_start, line_end, boundary, capture, back, bracket, string_set, submatch, loop, single_loop}
use Rattle.regress_front_nodes.specs.Sizes.{size}

-- How many loops have a minimum of 1 or more. Each is unrolled at most once: what is left of it has the minimum 0, and its
-- copies hold no loops.
abbrev pub pending : Tree → ℕ
pending (cat a b) = pending a + pending b
pending (alt a b) = pending a + pending b
pending (capture k name a) = pending a
pending (submatch kind first last a) = pending a
pending (loop a first last least most greedy) = pending a + (if nat_le 1 least then 1 else 0)
pending (single_loop a least most greedy) = pending a
pending empty = 0
pending goal = 0
pending (char c) = 0
pending (bytes bs) = 0
pending (byte_set bs) = 0
pending (char_set cs) = 0
pending no_part = 0
pending any = 0
pending any_in_line = 0
pending (line_start multiline) = 0
pending (line_end multiline) = 0
pending (boundary inverted folded) = 0
pending (back k icase) = 0
pending (bracket inverted intervals) = 0
pending (string_set strings icase) = 0

-- How many nodes there are, where a literal counts as one and as four for each of its characters, since what shares one is up
-- to three nodes more, and where what a rule makes simpler counts more than what it becomes.
abbrev pub bulk : Tree → ℕ
bulk (char c) = 6
bulk (cat a b) = bulk a + bulk b
bulk no_part = 2
bulk (alt a b) = bulk a + bulk b + 1
bulk (capture k name a) = bulk a + 1
bulk (bracket inverted intervals) = 7
bulk (submatch kind first last a) = bulk a + 1
bulk (loop a first last least most greedy) = bulk a + 2
bulk (single_loop a least most greedy) = bulk a + 1
bulk empty = 1
bulk goal = 1
bulk (bytes bs) = 4 * length (chars bs) + 1
bulk (byte_set bs) = 1
bulk (char_set cs) = 1
bulk any = 1
bulk any_in_line = 1
bulk (line_start multiline) = 1
bulk (line_end multiline) = 1
bulk (boundary inverted folded) = 1
bulk (back k icase) = 1
bulk (string_set strings icase) = 1

-- more than the copies of a body weigh
abbrev pub most_weight : ℕ
most_weight = 50000

-- The weight of a tree, which each rule lowers: unrolling a loop raises the bulk, but leaves one less to be unrolled.
abbrev pub weight : Tree → ℕ
weight t = most_weight * pending t + bulk t

-- at most so many nodes come with an unrolled loop: five copies of 1280 nodes, and a `Cat` around them
abbrev pub most_added : ℕ
most_added = 6401

-- The size that a tree may grow to, which no rule raises.
abbrev pub room : Tree → ℕ
room t = size t + most_added * pending t
