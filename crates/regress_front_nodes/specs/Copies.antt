-- Copies of nodes.
use Rattle.std.specs.Prelude.{◌≡◌, ℕ, ◌+◌, ◌≤◌, List, [], Option, Some, None, Box, Vec, map}
use Rattle.std.specs.declared.alloc.Global.{Global}
use Rattle.regress_front_nodes.specs.declared.node.Node.{Node}
use Rattle.regress_front_nodes.specs.Trees.{Tree, tree, cat_of}
use Rattle.regress_front_nodes.specs.Forms.{nesting, deepest_copy}
use Rattle.regress_front_nodes.specs.WellFormed.{group_ids}

-- it holds no capture group, and below so many nodes its deepest node isn't too deep
abbrev pub MayBeCopied : ℕ → Tree → Type 0
MayBeCopied depth t = (group_ids t ≡ []) × (depth + nesting t ≤ deepest_copy)

-- The copy of a tree: an equal node where it may be copied, and else none.
abbrev pub IsCopy : ℕ → Tree → Option Node → Type 0
IsCopy depth t None = MayBeCopied depth t → ⊥
IsCopy depth t (Some n) = MayBeCopied depth t × (tree n ≡ t)

-- the same of a node in a box
abbrev pub IsBoxedCopy : ℕ → Tree → Option (Box Node Global) → Type 0
IsBoxedCopy depth t None = MayBeCopied depth t → ⊥
IsBoxedCopy depth t (Some b) = MayBeCopied depth t × (tree b.value ≡ t)

-- the same of the parts of a `Cat`
abbrev pub AreCopies : ℕ → List Tree → Option (Vec Node Global) → Type 0
AreCopies depth parts None = MayBeCopied depth (cat_of parts) → ⊥
AreCopies depth parts (Some ns) = MayBeCopied depth (cat_of parts) × (map tree ns.items ≡ parts)
