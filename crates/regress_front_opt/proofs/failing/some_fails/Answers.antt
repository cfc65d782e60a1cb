use Rattle.std.proofs.Common.{sym, ap, ◌∙◌}
use Rattle.regress_front_nodes.specs.Trees.{tree}
use Rattle.regress_front_nodes.specs.Singles.{always_fails}
use Rattle.regress_front_opt.proofs.ShapeLemmas.{any-found, any-more}
use Rattle.regress_front_opt.proofs.failing.some_fails.Goals as goal

pub returns-then-match_always_fails : goal.returns-then-match_always_fails
returns-then-match_always_fails c =
    sym (any-found always_fails c.args.parts.now c.loop-part.part-index c.part-item.result c.loop-part-test.true
    (ap (λ n. always_fails (tree n)) (sym c.part-item.is) ∙ sym c.if-match_always_fails.ensures.form))

pub loop-part-preserved : goal.loop-part-preserved
loop-part-preserved c =
    any-more always_fails c.args.parts.now c.loop-part.part-index c.part-item.result c.loop-part-test.true c.loop-part.invariant
    (ap (λ n. always_fails (tree n)) (sym c.part-item.is) ∙ sym c.if-match_always_fails.ensures.form)
