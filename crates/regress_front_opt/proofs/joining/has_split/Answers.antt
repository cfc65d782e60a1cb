use Rattle.std.proofs.Common.{sym, ap, map, ◌∙◌}
use Rattle.regress_front_nodes.specs.Trees.{tree}
use Rattle.regress_front_nodes.proofs.NodeLemmas.{parts-cat_of}
use Rattle.regress_front_nodes.proofs.TreeLaws.{tree-Cat}
use Rattle.regress_front_rules.specs.NormalForm.{literals_meet}
use Rattle.regress_front_opt.proofs.NodeKinds.{no-cat, no_cat-split}
use Rattle.regress_front_opt.proofs.joining.has_split.Goals as goal

pub returns-in-Cat : goal.returns-in-Cat
returns-in-Cat c =
    let some = rw c.deref.ensures.value at c.some_meet.ensures in
    rw (c.in-Cat.is, tree-Cat) (some ∙ ap literals_meet (sym (parts-cat_of (map tree c.in-Cat.parts.items))))

pub returns-in_default : goal.returns-in_default
returns-in_default c = sym (no_cat-split (tree c.args.node.now) (no-cat c.args.node.now c.in_default.not-Cat))
