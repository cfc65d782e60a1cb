use Rattle.std.proofs.Common.{◌≡◌, true, false, ◌&&◌, refl, sym, ap, ◌∙◌}
use Rattle.std.proofs.lemmas.Bool.{and_parts}
use Rattle.regress_front_nodes.specs.Trees.{tree}
use Rattle.regress_front_rules.specs.NormalForm.{is_literal}
use Rattle.regress_front_opt.proofs.JoinLemmas.{meet-found, meet-more, ends-more}
use Rattle.regress_front_opt.proofs.joining.some_meet.Goals as goal

pub returns-then-behind_literal-literal : goal.returns-then-behind_literal-literal
returns-then-behind_literal-literal c =
    let here = ap (λ n. is_literal (tree n)) (sym c.part-item.is) ∙ sym c.is_literal_node-literal.ensures in
    let both = and_parts c.loop-part.behind_literal c.is_literal_node-literal.result c.if-behind_literal-literal.true in
    sym (meet-found c.args.parts.now c.loop-part.part-index c.part-item.result c.loop-part-test.true (sym c.loop-part.invariant.1 ∙ both.0) (here ∙ both.1))

pub loop-part-preserved : goal.loop-part-preserved
loop-part-preserved c =
    let here = ap (λ n. is_literal (tree n)) (sym c.part-item.is) ∙ sym c.is_literal_node-literal.ensures in
    let behind = c.loop-part.behind_literal in (
      meet-more c.args.parts.now c.loop-part.part-index c.part-item.result behind c.loop-part-test.true c.loop-part.invariant.0 c.loop-part.invariant.1
          (ap (λ b. behind && b) here ∙ c.if-behind_literal-literal.false),
      c.is_literal_node-literal.ensures ∙ ap (λ n. is_literal (tree n)) c.part-item.is ∙ sym (ends-more c.args.parts.now c.loop-part.part-index c.part-item.result c.loop-part-test.true),
    )
