use Rattle.std.proofs.Common.{◌≡◌, ◌++◌, map}
use Rattle.regress_front_nodes.specs.Trees.{tree}
use Rattle.regress_front_nodes.specs.Pieces.{piece_tree}
use Rattle.regress_front_tree.proofs.lowering.Lowering.text.Given as goal

-- the nodes before, and those of the pieces so far
abbrev pub invariant-loop-piece : goal.invariant-loop-piece
invariant-loop-piece l = map tree l.nodes.items ≡ map tree l.fn.nodes.items ++ map piece_tree l.yielded
