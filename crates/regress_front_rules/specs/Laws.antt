-- What holds of rewriting, as laws.
use Rattle.std.specs.Prelude.{◌≡◌, ℕ, ◌+◌, ◌*◌, ◌<◌, ◌≤◌, Bool, true, ◌∷◌, All}
use Rattle.regress_meaning.specs.Table.{Table}
use Rattle.regress_meaning.specs.Meaning.{Direction, Forward}
use Rattle.regress_front_nodes.specs.declared.node.Node.{Node}
use Rattle.regress_front_nodes.specs.Trees.{Tree, tree, empty, goal, char, bytes, byte_set, char_set, cat, no_part, cat_of, alt, any, any_in_line, line_start, line_end, boundary, capture, back, bracket, string_set, submatch, loop, single_loop}
use Rattle.regress_front_nodes.specs.TreeMeaning.{node_outcomes}
use Rattle.regress_front_nodes.specs.Alike.{IsAlike}
use Rattle.regress_front_nodes.specs.Forms.{is_cat, parts, nesting}
use Rattle.regress_front_nodes.specs.Sizes.{size, loops, spread}
use Rattle.regress_front_nodes.specs.WellFormed.{AreLawful, IsWellFormed, name_by_number}
use Rattle.regress_front_rules.specs.NormalForm.{is_short_cat, has_loose_part, has_split_literal, is_loose_char, is_unrollable, is_loop_of_one, is_empty_choice, is_idle_loop, is_lost_cat, IsNormal}
use Rattle.regress_front_rules.specs.Rules.{RewritesAtRoot, Rewrites, Reaches}
use Rattle.regress_front_rules.specs.Weight.{weight, most_added}
use Rattle.regress_front_rules.specs.Kept.{Keeps}

-- With every table, in both modes, on every text of code points and from every state in it the two trees lead to the same
-- distinct outcomes in the same order, in this direction.
abbrev pub AreAlikeIn : Direction → Tree → Tree → Type 0
AreAlikeIn dir t u =
    (table : Table) (unicode : Bool) → IsAlike table unicode (λ context. node_outcomes context t dir) (λ context. node_outcomes context u dir)

-- One rule, somewhere in a lawful tree, leads to a tree that is alike, lawful and lighter.
abbrev pub RulesAreRight : Type 0
RulesAreRight = (dir : Direction) (n : ℕ) (t u : Tree) → Rewrites dir t u → AreLawful n t
    → AreAlikeIn dir t u × AreLawful n u × (weight u < weight t)

-- Rules, one after another, in any tree, keep its groups, its names, its `Goal` and its room, and add no loop.
abbrev pub RulesKeep : Type 0
RulesKeep = (dir : Direction) (t u : Tree) → Reaches dir t u → Keeps t u

-- What rules, one after another, make of a whole tree of n groups.
pub record IsRewritten (n : ℕ) (t u : Tree) : Type 0 where
  -- it means the same
  pub alike : AreAlikeIn Forward t u
  -- it is well formed
  pub well_formed : IsWellFormed n u
  -- each group has its name
  pub named : (k : ℕ) → name_by_number k u ≡ name_by_number k t
  -- it has no more loops
  pub few_loops : loops u ≤ loops t
  -- for each loop there are at most so many nodes more
  pub few_nodes : size u ≤ size t + most_added * loops t
  -- it spreads no further
  pub few_spread : spread u ≤ spread t
  -- it is no heavier
  pub no_heavier : weight u ≤ weight t

-- Rules, one after another, lead from a well-formed tree to one that means the same, is well formed and hardly larger.
abbrev pub WholesAreRight : Type 0
WholesAreRight = (n : ℕ) (t u : Tree) → Reaches Forward t u → IsWellFormed n t → IsRewritten n t u

-- the tree with its parts as a list, if it is a `Cat`
abbrev pub listed : Tree → Tree
listed (cat a b) = cat_of (a ∷ parts b)
listed t = t

-- Its parts are a list, as in the tree of each node, or it is no `Cat`.
abbrev pub IsListed : Tree → Type 0
IsListed t = listed t ≡ t

-- Each `Cat` in the tree is a list of parts, as in the tree of each node.
abbrev pub AreListed : Tree → Type 0
AreListed (cat a b) = AreListed a × AreListed b × (is_cat b ≡ true)
AreListed (alt a b) = AreListed a × AreListed b
AreListed (capture k name a) = AreListed a
AreListed (submatch kind first last a) = AreListed a
AreListed (loop a first last least most greedy) = AreListed a
AreListed (single_loop a least most greedy) = AreListed a
AreListed empty = Unit {0}
AreListed goal = Unit {0}
AreListed (char c) = Unit {0}
AreListed (bytes bs) = Unit {0}
AreListed (byte_set bs) = Unit {0}
AreListed (char_set cs) = Unit {0}
AreListed no_part = Unit {0}
AreListed any = Unit {0}
AreListed any_in_line = Unit {0}
AreListed (line_start multiline) = Unit {0}
AreListed (line_end multiline) = Unit {0}
AreListed (boundary inverted folded) = Unit {0}
AreListed (back k icase) = Unit {0}
AreListed (bracket inverted intervals) = Unit {0}
AreListed (string_set strings icase) = Unit {0}

-- some rule makes another tree of it
abbrev pub IsRedex : Direction → Tree → Type 0
IsRedex dir t = (u : Tree) × RewritesAtRoot dir t u

-- Where a tree itself breaks a clause of the normal form, a rule makes another tree of it, in each direction.
pub record BrokenNodesAreRedexes (dir : Direction) : Type 0 where
  pub short_cat : (t : Tree) → IsListed t → is_short_cat t ≡ true → IsRedex dir t
  pub loose_part : (t : Tree) → IsListed t → All IsListed (parts t) → has_loose_part t ≡ true → IsRedex dir t
  pub split_literal : (t : Tree) → IsListed t → has_split_literal t ≡ true → IsRedex dir t
  pub loose_char : (t : Tree) → is_loose_char t ≡ true → IsRedex dir t
  pub unrollable_loop : (t : Tree) → is_unrollable t ≡ true → IsRedex dir t
  pub loop_of_one : (t : Tree) → is_loop_of_one t ≡ true → IsRedex dir t
  pub empty_choice : (t : Tree) → is_empty_choice t ≡ true → IsRedex dir t
  pub idle_loop : (t : Tree) → is_idle_loop t ≡ true → IsRedex dir t
  pub lost_cat : (t : Tree) → IsListed t → is_lost_cat t ≡ true → IsRedex dir t

-- Rules, one after another, lead from each lawful tree to one in normal form.
abbrev pub NormalFormsAreReached : Type 0
NormalFormsAreReached = (dir : Direction) (n : ℕ) (t : Tree) → AreLawful n t → AreListed t → (u : Tree) × Reaches dir t u × IsNormal u

-- The tree of each node is such a tree.
abbrev pub NodesAreListed : Type 0
NodesAreListed = (node : Node) → AreListed (tree node)

-- A lawful tree nests less deep than it has nodes, so what is small enough to be copied is not too deep to be copied.
abbrev pub NestsLessThanItsSize : Type 0
NestsLessThanItsSize = (n : ℕ) (t : Tree) → AreLawful n t → nesting t < size t
