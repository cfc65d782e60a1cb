use Rattle.std.proofs.Common.{sym, ap, map, ◌∙◌}
use Rattle.std.specs.List.{list_any}
use Rattle.regress_front_nodes.specs.Trees.{tree}
use Rattle.regress_front_nodes.proofs.NodeLemmas.{parts-cat_of}
use Rattle.regress_front_nodes.proofs.TreeLaws.{tree-Cat}
use Rattle.regress_front_opt.specs.Shapes.{is_loose}
use Rattle.regress_front_opt.proofs.NodeKinds.{no-cat}
use Rattle.regress_front_opt.proofs.ShapeLemmas.{no_cat-loose}
use Rattle.regress_front_opt.proofs.flattening.has_loose.Goals as goal

pub returns-in-Cat : goal.returns-in-Cat
returns-in-Cat c =
    let some = rw c.deref.ensures.value at c.some_loose.ensures in
    rw (c.in-Cat.is, tree-Cat) (some ∙ ap (list_any is_loose) (sym (parts-cat_of (map tree c.in-Cat.parts.items))))

pub returns-in_default : goal.returns-in_default
returns-in_default c = sym (no_cat-loose (tree c.args.node.now) (no-cat c.args.node.now c.in_default.not-Cat))
