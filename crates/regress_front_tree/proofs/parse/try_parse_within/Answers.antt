use Rattle.std.proofs.Common.{arith}
use Rattle.regress_front_nodes.specs.Trees.{tree}
use Rattle.regress_front_tree.proofs.parse.try_parse_within.Goals as goals

pub returns-clause-accepted : goals.returns-clause-accepted
returns-clause-accepted c =
    let (p, from, few) = c.in_ok-node.ensures.lowered in
    let made = c.lowered_trees_make_wholes.ensures.alone _ _ _ p (tree c.in_ok-node.node) from in
    let small = c.lowered_trees_are_cheap.ensures _ _ _ _ _ p (tree c.in_ok-node.node) from.opened from.lowered in
    (p, rw c.in_ok-node-2.ensures (record { of_text = made; within = few; spread = omega (arith, small) }))
