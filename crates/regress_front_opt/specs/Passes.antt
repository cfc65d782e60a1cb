-- What passes do at a node, and in all of a tree.
use Rattle.std.specs.Prelude.{◌≡◌, ℕ, Bool, true, false, List, Option, Some, None, Result, Ok, Err, All}
use Rattle.regress_meaning.specs.Meaning.{Direction, Forward}
use Rattle.regress_front_core.specs.declared.error.Error.{Error}
use Rattle.regress_front_core.specs.declared.error.Error.TheVariants.{OutOfMemory}
use Rattle.regress_front_sets.specs.Sets.{ends_in}
use Rattle.regress_front_nodes.specs.declared.node.BracketContents.{BracketContents}
use Rattle.regress_front_nodes.specs.declared.node.Node.{Node}
use Rattle.regress_front_nodes.specs.Trees.{Tree, tree, empty, cat_of}
use Rattle.regress_front_nodes.specs.TreeMeaning.{bracket_has}
use Rattle.regress_front_nodes.specs.Characters.{Takes}
use Rattle.regress_front_opt.specs.declared.action.PassAction.{PassAction}
use Rattle.regress_front_opt.specs.declared.action.PassAction.TheVariants.{Keep, Modified, Remove, Replace}
use Rattle.regress_front_rules.specs.NormalForm.{nodes_below, Nowhere, IsNormal}
use Rattle.regress_front_rules.specs.Rules.{is_bracket, Rewrites, Reaches}

-- One rule makes another tree of the first, and rules one after another lead from there to the second.
pub record Advances (dir : Direction) (t u : Tree) : Type 0 where
  pub next : Tree
  pub first : Rewrites dir t next
  pub others : Reaches dir next u

-- At a node a pass either finds nothing to do, and then its test is false there, or moves on by rules, at least one. Where
-- memory is refused, some rules may have been applied.
abbrev pub IsPassed : Direction → (Tree → Bool) → Tree → Tree → Result PassAction Error → Type 0
IsPassed dir broken t u (Ok Keep) = (u ≡ t) × (broken t ≡ false)
IsPassed dir broken t u (Ok Modified) = Advances dir t u
IsPassed dir broken t u (Ok Remove) = Advances dir t empty
IsPassed dir broken t u (Ok (Replace n)) = Advances dir t (tree n)
IsPassed dir broken t u (Err e) = Reaches dir t u × (e ≡ OutOfMemory)

-- Whether a tree was changed: by rules, at least one, or not at all, and then the test is false everywhere in it.
abbrev pub IsVisited : Direction → (Tree → Bool) → Tree → Tree → Result Bool Error → Type 0
IsVisited dir broken t u (Ok true) = Advances dir t u
IsVisited dir broken t u (Ok false) = (u ≡ t) × Nowhere broken t
IsVisited dir broken t u (Err e) = Reaches dir t u × (e ≡ OutOfMemory)

-- the same of one node
abbrev pub IsVisitedHere : Direction → (Tree → Bool) → Tree → Tree → Result Bool Error → Type 0
IsVisitedHere dir broken t u (Ok true) = Advances dir t u
IsVisitedHere dir broken t u (Ok false) = (u ≡ t) × (broken t ≡ false)
IsVisitedHere dir broken t u (Err e) = Reaches dir t u × (e ≡ OutOfMemory)

-- the same of what stands below a node
abbrev pub IsVisitedBelow : Direction → (Tree → Bool) → Tree → Tree → Result Bool Error → Type 0
IsVisitedBelow dir broken t u (Ok true) = Advances dir t u
IsVisitedBelow dir broken t u (Ok false) = (u ≡ t) × All (λ v. broken v ≡ false) (nodes_below t)
IsVisitedBelow dir broken t u (Err e) = Reaches dir t u × (e ≡ OutOfMemory)

-- the same of the first parts of a `Cat`
abbrev pub AreVisited : Direction → (Tree → Bool) → (ts us first : List Tree) → Bool → Type 0
AreVisited dir broken ts us first true = Advances dir (cat_of ts) (cat_of us)
AreVisited dir broken ts us first false = (us ≡ ts) × All (Nowhere broken) first

-- What a round of all passes does to a whole tree: nothing, and then the tree is in normal form, or it moves on by rules.
abbrev pub IsRound : Tree → Tree → Result Bool Error → Type 0
IsRound t u (Ok true) = Advances Forward t u
IsRound t u (Ok false) = (u ≡ t) × IsNormal t
IsRound t u (Err e) = Reaches Forward t u × (e ≡ OutOfMemory)

-- If a node is given, its tree matches the same characters as the class, and is none.
abbrev pub IsSimpler : BracketContents → Option Node → Type 0
IsSimpler contents None = Unit {0}
IsSimpler contents (Some n) = (is_bracket (tree n) ≡ false) × Takes (tree n) (bracket_has contents.invert (ends_in contents.cps))
