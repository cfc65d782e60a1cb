use Rattle.std.proofs.Common.{◌≡◌, ◌++◌, map}
use Rattle.regress_front_nodes.specs.Trees.{tree}
use Rattle.regress_front_tree.specs.Pairing.{in_pairs}
use Rattle.regress_front_tree.proofs.arms.in_pairs.Given as goal

-- the pairs so far, and those of the arms that are left
abbrev pub invariant-loop-first : goal.invariant-loop-first
invariant-loop-first l = map tree l.pairs.items ++ in_pairs (map tree l.arms.rest.items) ≡ in_pairs (map tree l.fn.arms.items)

abbrev pub decreases-loop-first : goal.decreases-loop-first
decreases-loop-first l = l.arms.rest.len
