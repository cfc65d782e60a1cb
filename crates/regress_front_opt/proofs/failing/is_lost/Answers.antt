use Rattle.std.proofs.Common.{true, false, ◌&&◌, map, sym, ap, ◌∙◌}
use Rattle.std.specs.List.{list_any, list_all}
use Rattle.regress_front_nodes.specs.Trees.{tree}
use Rattle.regress_front_nodes.specs.Singles.{always_fails}
use Rattle.regress_front_nodes.proofs.TreeLaws.{tree-Cat}
use Rattle.regress_front_opt.specs.Shapes.{is_plain}
use Rattle.regress_front_opt.proofs.NodeKinds.{no-cat}
use Rattle.regress_front_opt.proofs.ShapeLemmas.{lost-cat, no_cat-lost}
use Rattle.regress_front_opt.proofs.failing.is_lost.Goals as goal

pub returns-then-some_fails : goal.returns-then-some_fails
returns-then-some_fails c =
    let ts = map tree c.in-Cat.parts.items in
    let some = rw c.deref.ensures.value at c.if-some_fails.ensures in
    let all = rw c.deref-then-some_fails.ensures.value at c.are_plain.ensures in
    rw (c.in-Cat.is, tree-Cat) (all ∙ ap (λ b. b && list_all is_plain ts) some ∙ lost-cat ts)

pub returns-else-some_fails : goal.returns-else-some_fails
returns-else-some_fails c =
    let ts = map tree c.in-Cat.parts.items in
    let some = rw c.deref.ensures.value at c.if-some_fails.ensures in
    rw (c.in-Cat.is, tree-Cat) (c.if-some_fails.false ∙ ap (λ b. b && list_all is_plain ts) some ∙ lost-cat ts)

pub returns-in_default : goal.returns-in_default
returns-in_default c = sym (no_cat-lost (tree c.args.node.now) (no-cat c.args.node.now c.in_default.not-Cat))
