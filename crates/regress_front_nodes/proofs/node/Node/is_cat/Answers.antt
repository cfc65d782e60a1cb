use Rattle.std.proofs.Common.{sym}
use Rattle.regress_front_nodes.proofs.TreeLaws.{tree-Cat}
use Rattle.regress_front_nodes.proofs.NodeLemmas.{is_cat-cat_of}
use Rattle.regress_front_nodes.proofs.node.Node.is_cat.Goals as goal

pub returns-in-Cat : goal.returns-in-Cat
returns-in-Cat c = rw (c.in-Cat.is, tree-Cat) (sym (is_cat-cat_of _))
