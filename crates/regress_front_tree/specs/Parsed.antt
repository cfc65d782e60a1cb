-- What a parsed pattern gives.
use Rattle.std.specs.Prelude.{ℕ, ◌≤◌, false, List, [], ◌∷◌}
use Rattle.regress_meaning.specs.Table.{Table}
use Rattle.regress_meaning.specs.Flags.{Options, is_unicode, first_settings}
use Rattle.regress_meaning.specs.Pattern.{Pattern}
use Rattle.regress_meaning.specs.Grammar.{Spells}
use Rattle.regress_meaning.specs.Limits.{WithinLimits}
use Rattle.regress_meaning.specs.Meaning.{Forward, outcomes}
use Rattle.regress_meaning.specs.WholeText.{whole_text}
use Rattle.regress_front_nodes.specs.Sizes.{spread}
use Rattle.regress_front_nodes.specs.Trees.{Tree, line_start, line_end, cat_of}
use Rattle.regress_front_nodes.specs.TreeMeaning.{node_outcomes}
use Rattle.regress_front_nodes.specs.Alike.{IsAlike}
use Rattle.regress_front_costs.specs.Costs.{whole_cost}
use Rattle.regress_front_tree.specs.Lowering.{Lowers}
use Rattle.regress_front_tree.specs.Lowered.{IsWhole}

-- The tree that a pattern is lowered to, which a text spells within the limits.
pub record IsLoweredFrom (table : Table) (o : Options) (text : List ℕ) (p : Pattern) (t : Tree) : Type 0 where
  pub spelled : Spells table o text p
  pub within : WithinLimits p
  pub opened : ℕ
  pub lowered : Lowers table (is_unicode o) false (first_settings o) 0 p t opened

-- The tree of what is made of a pattern that a text spells within the limits: it is alike that, and as a whole tree has to be.
pub record IsTreeMade (made : Pattern → Pattern) (table : Table) (o : Options) (text : List ℕ) (p : Pattern) (t : Tree) : Type 0 where
  pub spelled : Spells table o text p
  pub within : WithinLimits p
  pub alike : IsAlike table (is_unicode o) (λ context. node_outcomes context t Forward) (λ context. outcomes context (made p) Forward (first_settings o))
  pub whole : IsWhole o text (made p) t

-- The tree of what is made of a pattern whose cost is within the limit: it spreads no further than that cost.
pub record IsTreeWithin (limit : ℕ) (made : Pattern → Pattern) (table : Table) (o : Options) (text : List ℕ) (p : Pattern) (t : Tree) : Type 0 where
  pub of_text : IsTreeMade made table o text p t
  pub within : whole_cost table (made p) ≤ limit
  pub spread : spread t ≤ whole_cost table (made p)

-- the tree of the pattern itself
abbrev pub IsTreeOf : Table → Options → List ℕ → Pattern → Tree → Type 0
IsTreeOf = IsTreeMade (λ p. p)

-- the tree of the pattern over a whole text
abbrev pub IsTreeOverText : Table → Options → List ℕ → Pattern → Tree → Type 0
IsTreeOverText = IsTreeMade whole_text

-- a tree between the start and the end of the text
abbrev pub between_ends : Tree → Tree
between_ends t = cat_of (line_start false ∷ t ∷ line_end false ∷ [])
