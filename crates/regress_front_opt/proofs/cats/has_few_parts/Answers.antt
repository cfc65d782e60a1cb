use Rattle.std.proofs.Common.{◌≡◌, length, map, nat_lt, sym, ap, ◌∙◌}
use Rattle.std.proofs.lemmas.List.{length-map}
use Rattle.regress_front_nodes.specs.Trees.{tree}
use Rattle.regress_front_nodes.proofs.TreeLaws.{tree-Cat}
use Rattle.regress_front_opt.proofs.NodeKinds.{no-cat}
use Rattle.regress_front_opt.proofs.AdvanceLemmas.{short-cat, no_cat-short}
use Rattle.regress_front_opt.proofs.cats.has_few_parts.Goals as goal

pub returns-in-Cat : goal.returns-in-Cat
returns-in-Cat c =
    rw (c.in-Cat.is, tree-Cat) (ap (λ n. nat_lt n 2) (c.len.ensures ∙ c.in-Cat.parts.ok.0 ∙ sym (length-map _ _)) ∙ sym (short-cat (map tree c.in-Cat.parts.items)))

pub returns-in_default : goal.returns-in_default
returns-in_default c = sym (no_cat-short (tree c.args.node.now) (no-cat c.args.node.now c.in_default.not-Cat))
