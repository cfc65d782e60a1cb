use Rattle.std.proofs.Common.{map, sym, ap, ◌∙◌}
use Rattle.std.proofs.lemmas.Bool.{false≢true}
use Rattle.regress_front_nodes.specs.Trees.{tree, cat_of}
use Rattle.regress_front_nodes.specs.TreeMeaning.{direction}
use Rattle.regress_front_nodes.proofs.TreeLaws.{tree-Cat}
use Rattle.regress_front_nodes.proofs.NodeLemmas.{parts-cat_of}
use Rattle.regress_front_rules.specs.NormalForm.{has_split_literal, literals_meet}
use Rattle.regress_front_opt.proofs.NodeKinds.{no-cat, no_cat-split}
use Rattle.regress_front_opt.proofs.PassLemmas.{passed-reached}
use Rattle.regress_front_opt.proofs.JoinLemmas.{joined-advances}
use Rattle.regress_front_opt.proofs.joining.JoinedLiteralsPass.rewrite.Goals as goal

pub unreachable-requires : goal.unreachable-requires
unreachable-requires c =
    false≢true (sym (no_cat-split (tree c.replace.result) (no-cat c.replace.result c.in_default.not-Cat)) ∙ ap (λ n. has_split_literal (tree n)) c.replace.ensures.value ∙ sym c.if-not-has_split.ensures)

pub returns-in_err-outcome-in-Cat : goal.returns-in_err-outcome-in-Cat
returns-in_err-outcome-in-Cat c =
    let e = sym c.replace.ensures.value ∙ c.in-Cat.is in
    let reached = c.in_err-outcome-in-Cat.ensures.joined in
    passed-reached (direction c.args.in_lookbehind) has_split_literal (tree c.args.node.now) _ c.from_residual.result
    (rw (e, tree-Cat c.in-Cat.parts, tree-Cat c.join-outcome.new.parts) reached) c.from_residual.ensures.1

pub returns : goal.returns
returns c =
    let e = sym c.replace.ensures.value ∙ c.in-Cat.is in
    let ns = c.in-Cat.parts.items in
    let some = rw (e, tree-Cat) at c.if-not-has_split.ensures in
    let meets = ap literals_meet (sym (parts-cat_of (map tree ns))) ∙ sym some in
    let done = c.in_ok-outcome-in-Cat.ensures in
    rw (e, tree-Cat c.in-Cat.parts, tree-Cat c.join-outcome.new.parts) (joined-advances (map tree ns) (map tree c.join-outcome.new.parts.items) done.joined meets done.apart)
