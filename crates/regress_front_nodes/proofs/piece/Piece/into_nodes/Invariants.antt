use Rattle.std.proofs.Common.{◌≡◌, map}
use Rattle.regress_front_nodes.specs.Trees.{tree}
use Rattle.regress_front_nodes.specs.Pieces.{piece_tree}
use Rattle.regress_front_nodes.proofs.piece.Piece.into_nodes.Given as goal

-- the nodes are those of the pieces so far
abbrev pub invariant-loop-piece : goal.invariant-loop-piece
invariant-loop-piece l = map tree l.nodes.items ≡ map piece_tree l.yielded
