use Rattle.std.proofs.Common.{◌≡◌, ◌+◌, ◌<◌, length, map, min, sum_by, refl, sym, ap, ◌∙◌, subst, arith}
use Rattle.regress_front_nodes.specs.Trees.{tree, cat_of}
use Rattle.regress_front_nodes.specs.Sizes.{size}
use Rattle.regress_front_nodes.specs.Forms.{nesting}
use Rattle.regress_front_nodes.proofs.TreeLaws.{tree-Cat}
use Rattle.regress_front_nodes.proofs.ChangeLemmas.{nesting-part}
use Rattle.regress_front_rules.specs.Rules.{HasLaws}
use Rattle.regress_front_opt.proofs.PassLemmas.{part-laws}
use Rattle.regress_front_opt.proofs.UnrollLemmas.{size-parts, size-more}
use Rattle.regress_front_opt.proofs.sizes.+size.Goals as goal

pub node_count-returns-in-Cat : goal.node_count-returns-in-Cat
node_count-returns-in-Cat t c =
    let all = rw c.deref-in-Cat.ensures.value at c.part_count.ensures in
    let whole = ap (λ n. size (tree n)) c.in-Cat.is ∙ ap size (tree-Cat c.in-Cat.parts) ∙ size-parts (map tree c.in-Cat.parts.items) in
    omega (arith, all, whole, c.saturating_add-in-Cat.ensures)

pub part_count-node_count-requires : goal.part_count-node_count-requires
part_count-node_count-requires t c =
    let parts = c.args.parts.now in
    let i = c.loop-part.part-index in
    let nested = nesting-part parts parts i c.part-item.result c.loop-part-test.true refl in
    let same = ap (λ n. nesting (tree n)) c.part-item.is in
    (omega (arith, c.decreases, nested, same), subst (λ n. HasLaws (tree n)) (sym c.part-item.is) (part-laws parts parts i c.part-item.result c.loop-part-test.true refl c.requires))

pub part_count-loop-part-preserved : goal.part_count-loop-part-preserved
part_count-loop-part-preserved t c =
    let more = size-more c.args.parts.now c.loop-part.part-index c.part-item.result c.loop-part-test.true in
    let same = ap (λ n. size (tree n)) c.part-item.is in
    let so_far = c.loop-part.invariant in
    omega (arith, more, same, so_far, c.node_count.ensures, c.saturating_add-total.ensures)
