use Rattle.std.proofs.Common.{rules}
use Rattle.regress_front_nodes.proofs.TreeLaws.{tree-Cat}
use Rattle.regress_front_nodes.proofs.NodeLemmas.{turned-cat_of, map-reverse}
use Rattle.regress_front_nodes.proofs.node.Node.reverse_cats.Goals as goal

pub returns-then-w : goal.returns-then-w
returns-then-w c = rw c.if-w.true (search (rules, tree-Cat, turned-cat_of, map-reverse, c.in-Cat.is, c.in-Cat.parts-is, c.reverse.ensures.items))
