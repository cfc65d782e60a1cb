use Rattle.std.proofs.Common.{map, sym, ap, ◌∙◌}
use Rattle.std.proofs.lemmas.Bool.{false≢true}
use Rattle.std.specs.List.{list_any}
use Rattle.regress_front_nodes.specs.Trees.{tree, cat_of}
use Rattle.regress_front_nodes.specs.TreeMeaning.{direction}
use Rattle.regress_front_nodes.proofs.TreeLaws.{tree-Cat}
use Rattle.regress_front_nodes.proofs.NodeLemmas.{parts-cat_of}
use Rattle.regress_front_rules.specs.NormalForm.{has_loose_part}
use Rattle.regress_front_opt.specs.Shapes.{is_loose}
use Rattle.regress_front_opt.proofs.NodeKinds.{no-cat}
use Rattle.regress_front_opt.proofs.PassLemmas.{passed-same}
use Rattle.regress_front_opt.proofs.ShapeLemmas.{no_cat-loose, flat-advances}
use Rattle.regress_front_opt.proofs.flattening.FlattenedCatsPass.rewrite.Goals as goal

pub unreachable-requires : goal.unreachable-requires
unreachable-requires c =
    false≢true (sym (no_cat-loose (tree c.replace.result) (no-cat c.replace.result c.in_default.not-Cat)) ∙ ap (λ n. has_loose_part (tree n)) c.replace.ensures.value ∙ sym c.if-not-has_loose.ensures)

pub returns-in_err-outcome-in-Cat : goal.returns-in_err-outcome-in-Cat
returns-in_err-outcome-in-Cat c =
    let e = sym c.replace.ensures.value ∙ c.in-Cat.is in
    let kept = c.in_err-outcome-in-Cat.ensures.kept in
    let same = tree-Cat c.flatten-outcome.new.parts ∙ ap (λ ns. cat_of (map tree ns)) kept ∙ sym (tree-Cat c.in-Cat.parts) ∙ sym (ap tree e) in
    passed-same (direction c.args._in_lookbehind) has_loose_part (tree c.args.node.now) _ c.from_residual.result same c.from_residual.ensures.1

pub returns : goal.returns
returns c =
    let e = sym c.replace.ensures.value ∙ c.in-Cat.is in
    let ns = c.in-Cat.parts.items in
    let some = rw (e, tree-Cat) at c.if-not-has_loose.ensures in
    let loose = ap (list_any is_loose) (sym (parts-cat_of (map tree ns))) ∙ sym some in
    rw (e, tree-Cat, tree-Cat, c.in_ok-outcome-in-Cat.ensures.moved) (flat-advances _ ns loose)
