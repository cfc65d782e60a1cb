use Rattle.std.proofs.Common.{List, [], ◌∷◌, map, ap, ◌∙◌}
use Rattle.regress_front_nodes.specs.declared.node.Node.{Node}
use Rattle.regress_front_nodes.specs.Trees.{Tree, tree, cat_of}
use Rattle.regress_front_nodes.proofs.TreeLaws.{tree-Cat, tree-Goal}
use Rattle.regress_front_tree.proofs.parse.with_goal.Goals as goals

pub returns : goals.returns
returns c =
    tree-Cat c.in_ok-vec.field-0 ∙ ap (λ (ns : List Node). cat_of (map tree ns)) c.in_ok-vec.ensures.items ∙ ap (λ (u : Tree). cat_of (tree c.args.node ∷ u ∷ [])) tree-Goal
