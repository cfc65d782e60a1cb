use Rattle.std.proofs.Common.{◌≡◌, ◌+◌, ℕ, map, take}
use Rattle.regress_front_nodes.specs.Trees.{tree, back}
use Rattle.regress_front_tree.proofs.lowering.Lowering.reference.Given as goal

-- the nodes of the groups so far
abbrev pub invariant-loop-group : goal.invariant-loop-group
invariant-loop-group l = map tree l.nodes.items ≡ map (λ (j : ℕ). back (j + 1) l.scope.icase) (take l.group-index l.groups)
