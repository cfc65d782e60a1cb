use Rattle.std.proofs.Common.{List, [], ◌∷◌, map, ap, ◌∙◌}
use Rattle.regress_front_nodes.specs.declared.node.Node.{Node}
use Rattle.regress_front_nodes.specs.Trees.{tree, cat_of}
use Rattle.regress_front_nodes.proofs.TreeLaws.{tree-Cat}
use Rattle.regress_front_tree.proofs.parse.between_ends.Goals as goals

pub returns : goals.returns
returns c =
    tree-Cat c.in_ok-vec.field-0 ∙ ap (λ (ns : List Node). cat_of (map tree ns)) c.in_ok-vec.ensures.items
    ∙ (λ i. cat_of (c.end_of_text-start.ensures i ∷ tree c.args.node ∷ c.end_of_text-end.ensures i ∷ []))
