-- The normal form of trees that are searched: what a rewritten tree holds nowhere.
use Rattle.std.specs.Prelude.{◌≡◌, ℕ, Bool, true, false, not, ◌&&◌, ◌||◌, ◌==◌, List, [], ◌∷◌, ◌++◌, length, nat_le, nat_lt, All}
use Rattle.std.specs.List.{list_any}
use Rattle.regress_meaning.specs.TableParts.{is_surrogate}
use Rattle.regress_front_nodes.specs.Trees.{Tree, empty, goal, char, bytes, byte_set, char_set, cat, no_part, alt, any, any_in_line, line_start, line_end, boundary, capture, back, bracket, string_set, submatch, lookaround, atomic, loop, single_loop}
use Rattle.regress_front_nodes.specs.Forms.{is_empty, is_cat, parts}
use Rattle.regress_front_nodes.specs.Sizes.{size, loops}
use Rattle.regress_front_nodes.specs.Singles.{always_fails, takes_one}
use Rattle.regress_front_nodes.specs.WellFormed.{group_ids, goals}

-- the nodes below: of a `Cat` its parts, of each other kind what it holds, and all below these
abbrev pub nodes_below : Tree → List Tree
nodes_below (cat a b) = a ∷ nodes_below a ++ nodes_below b
nodes_below (alt a b) = (a ∷ nodes_below a) ++ b ∷ nodes_below b
nodes_below (capture k name a) = a ∷ nodes_below a
nodes_below (submatch kind first last a) = a ∷ nodes_below a
nodes_below (loop a first last least most greedy) = a ∷ nodes_below a
nodes_below (single_loop a least most greedy) = a ∷ nodes_below a
nodes_below empty = []
nodes_below goal = []
nodes_below (char c) = []
nodes_below (bytes bs) = []
nodes_below (byte_set bs) = []
nodes_below (char_set cs) = []
nodes_below no_part = []
nodes_below any = []
nodes_below any_in_line = []
nodes_below (line_start multiline) = []
nodes_below (line_end multiline) = []
nodes_below (boundary inverted folded) = []
nodes_below (back k icase) = []
nodes_below (bracket inverted intervals) = []
nodes_below (string_set strings icase) = []

-- neither the tree nor a node below it passes the test
abbrev pub Nowhere : (Tree → Bool) → Tree → Type 0
Nowhere test t = All (λ u. test u ≡ false) (t ∷ nodes_below t)

-- a literal
abbrev pub is_literal : Tree → Bool
is_literal (bytes bs) = true
is_literal _ = false

-- two literals stand side by side
abbrev pub literals_meet : List Tree → Bool
literals_meet [] = false
literals_meet (a ∷ []) = false
literals_meet (a ∷ b ∷ rest) = (is_literal a && is_literal b) || literals_meet (b ∷ rest)

-- it holds no capture group
abbrev pub has_no_group : Tree → Bool
has_no_group t = length (group_ids t) == 0

-- at most this often is a body copied
abbrev pub most_copies : ℕ
most_copies = 5

-- a body of more nodes is not copied
abbrev pub largest_copied : ℕ
largest_copied = 1280

-- A `Cat` of fewer than two parts.
abbrev pub is_short_cat : Tree → Bool
is_short_cat t = is_cat t && nat_lt (length (parts t)) 2

-- A `Cat` with a `Cat` or `Empty` among its parts.
abbrev pub has_loose_part : Tree → Bool
has_loose_part t = list_any (λ u. is_cat u || is_empty u) (parts t)

-- A `Cat` with two literals side by side.
abbrev pub has_split_literal : Tree → Bool
has_split_literal t = literals_meet (parts t)

-- A `Char` that a literal can hold: any but a surrogate, which has no bytes.
abbrev pub is_loose_char : Tree → Bool
is_loose_char (char c) = not (is_surrogate c)
is_loose_char _ = false

-- A `Loop` with a minimum from 1 to 5 over a small body without groups and loops.
abbrev pub is_unrollable : Tree → Bool
is_unrollable (loop a first last least most greedy) =
    nat_le 1 least && nat_le least most_copies && has_no_group a && (loops a == 0) && nat_le (size a) largest_copied
is_unrollable _ = false

-- A `Loop` over what takes exactly one character.
abbrev pub is_loop_of_one : Tree → Bool
is_loop_of_one (loop a first last least most greedy) = takes_one a
is_loop_of_one _ = false

-- An `Alt` of two `Empty`s.
abbrev pub is_empty_choice : Tree → Bool
is_empty_choice (alt a b) = is_empty a && is_empty b
is_empty_choice _ = false

-- It never takes a character, and holds no capture group and no `Goal`.
abbrev pub is_idle : Tree → Bool
is_idle empty = true
is_idle no_part = true
is_idle (line_start multiline) = true
is_idle (line_end multiline) = true
is_idle (boundary inverted folded) = true
is_idle (cat a b) = is_idle a && is_idle b
is_idle (alt a b) = is_idle a && is_idle b
is_idle (submatch (lookaround negated backward) first last a) = has_no_group a && (goals a == 0)
is_idle (submatch atomic first last a) = is_idle a
is_idle (loop a first last least most greedy) = is_idle a
is_idle goal = false
is_idle (char c) = false
is_idle (bytes bs) = false
is_idle (byte_set bs) = false
is_idle (char_set cs) = false
is_idle any = false
is_idle any_in_line = false
is_idle (capture k name a) = false
is_idle (back k icase) = false
is_idle (bracket inverted intervals) = false
is_idle (string_set strings icase) = false
is_idle (single_loop a least most greedy) = false

-- A `Loop` over what never takes a character, or that is never entered. It holds no capture group and no `Goal`.
abbrev pub is_idle_loop : Tree → Bool
is_idle_loop (loop a first last least most greedy) = is_idle a || ((most == 0) && (has_no_group a && (goals a == 0)))
is_idle_loop _ = false

-- A `Cat` with a part that always fails, which holds no capture group and no `Goal`.
abbrev pub is_lost_cat : Tree → Bool
is_lost_cat t = list_any always_fails (parts t) && has_no_group t && (goals t == 0)

-- The tree is in normal form: none of its nodes is one of these.
pub record IsNormal (t : Tree) : Type 0 where
  pub no_short_cat : Nowhere is_short_cat t
  pub no_loose_part : Nowhere has_loose_part t
  pub no_split_literal : Nowhere has_split_literal t
  pub no_loose_char : Nowhere is_loose_char t
  pub no_unrollable_loop : Nowhere is_unrollable t
  pub no_loop_of_one : Nowhere is_loop_of_one t
  pub no_empty_choice : Nowhere is_empty_choice t
  pub no_idle_loop : Nowhere is_idle_loop t
  pub no_lost_cat : Nowhere is_lost_cat t
