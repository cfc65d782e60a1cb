use Rattle.regress_front_nodes.specs.Trees.{tree}
use Rattle.regress_front_tree.proofs.parse.try_parse.Goals as goals

pub returns-clause-accepted : goals.returns-clause-accepted
returns-clause-accepted c =
    let (p, from) = c.in_ok-node.ensures.lowered in
    (p, rw c.in_ok-node-2.ensures (c.lowered_trees_make_wholes.ensures.alone _ _ _ p (tree c.in_ok-node.node) from))
