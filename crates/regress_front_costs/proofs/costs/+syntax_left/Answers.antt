use Rattle.std.proofs.Common.{◌≡◌, ◌+◌, ◌<◌, ℕ, length, map, sum_by, take_all, arith, sym, ap, ◌∙◌}
use Rattle.std.proofs.lemmas.List.{length-map}
use Rattle.std.proofs.lemmas.Bool.{eqb-false}
use Rattle.regress_front_tables.specs.TableViews.{table}
use Rattle.regress_front_tokens.specs.Trees.{tree, term_trees, trees_of}
use Rattle.regress_front_tokens.specs.declared.syntax.Term.{Term}
use Rattle.regress_front_tokens.specs.declared.syntax.Syntax.{Syntax}
use Rattle.regress_front_tokens.proofs.TreeLaws.{tree-Alternative}
use Rattle.regress_front_costs.specs.Costs.{cost}
use Rattle.regress_front_costs.proofs.LeftLemmas.{none-left, less-left}
use Rattle.regress_front_costs.proofs.SumLemmas.{sum_by-flat_map, sum-more, sum-within}
use Rattle.regress_front_costs.proofs.CostSteps.{sequence-cost, choice-cost, characters-cost, one-cost}
use Rattle.regress_front_costs.proofs.costs.+syntax_left.Goals as goal
use Rattle.regress_front_costs.proofs.costs.+syntax_left.Goals.{terms_left-in-Text+in_ok-left-in-Text, terms_left-in-One+in_ok-left-in-One}

pub arms_left-returns-in_err-each_left : goal.arms_left-returns-in_err-each_left
arms_left-returns-in_err-each_left t c =
    let tables = table c.args.tables.now in
    let arms = map tree c.args.arms.now in
    let several = eqb-false (length c.args.arms.now) 0 (sym c.if-is_empty.ensures) in
    let count = length-map c.args.arms.now tree in
    let whole = choice-cost tables arms (omega (arith, count, several)) in
    none-left c.args.amount _ _ c.from_residual.result c.from_residual.ensures (c.in_err-each_left.ensures) (omega (arith, whole, count, several))

pub arms_left-returns : goal.arms_left-returns
arms_left-returns t c =
    let tables = table c.args.tables.now in
    let arms = map tree c.args.arms.now in
    let several = eqb-false (length c.args.arms.now) 0 (sym c.if-is_empty.ensures) in
    let count = length-map c.args.arms.now tree in
    let whole = choice-cost tables arms (omega (arith, count, several)) in
    less-left c.args.amount _ _ _ _ c.checked_sub-2.result (c.in_ok-each_left.ensures) c.checked_sub-2.ensures (omega (arith, whole, count, several))

pub syntax_left-returns-in_err-terms_left-in-Alternative : goal.syntax_left-returns-in_err-terms_left-in-Alternative
syntax_left-returns-in_err-terms_left-in-Alternative t c =
    let tables = table c.args.tables.now in
    let whole : cost tables (tree c.args.syntax.now) ≡ sum_by (cost tables) (trees_of c.in-Alternative.terms.items) + 1 =
    rw (c.in-Alternative.is, tree-Alternative) (sequence-cost tables (trees_of c.in-Alternative.terms.items)) in
    none-left c.args.amount _ _ c.from_residual-in_err-terms_left-in-Alternative.result c.from_residual-in_err-terms_left-in-Alternative.ensures
    (rw c.deref.ensures.value at c.in_err-terms_left-in-Alternative.ensures) (omega (arith, whole))

pub syntax_left-returns-in_ok-terms_left-in-Alternative : goal.syntax_left-returns-in_ok-terms_left-in-Alternative
syntax_left-returns-in_ok-terms_left-in-Alternative t c =
    let tables = table c.args.tables.now in
    let whole : cost tables (tree c.args.syntax.now) ≡ sum_by (cost tables) (trees_of c.in-Alternative.terms.items) + 1 =
    rw (c.in-Alternative.is, tree-Alternative) (sequence-cost tables (trees_of c.in-Alternative.terms.items)) in
    less-left c.args.amount _ _ 1 _ c.checked_sub-in-Alternative.result (rw c.deref.ensures.value at c.in_ok-terms_left-in-Alternative.ensures)
    c.checked_sub-in-Alternative.ensures whole

pub terms_left-returns-in_err-left-in-Text : goal.terms_left-returns-in_err-left-in-Text
terms_left-returns-in_err-left-in-Text t c =
    let tables = table c.args.tables.now in
    let own : Term Syntax → ℕ = λ term. sum_by (cost tables) (term_trees tree term) in
    let within = sum-within own c.args.terms.now c.loop-term.term-index c.term-item.result c.loop-term-test.true c.term-item.is in
    let here : own c.term-item.result ≡ length c.in-Text.points.items = ap own c.in-Text.is ∙ characters-cost tables c.in-Text.points.items in
    let whole = sum_by-flat_map (cost tables) (term_trees tree) c.args.terms.now in
    let less : c.args.amount < sum_by (cost tables) (trees_of c.args.terms.now) =
    omega (arith, whole, within, here, c.loop-term.invariant, c.in_err-left-in-Text.ensures, c.len.ensures) in
    none-left c.args.amount _ _ c.from_residual.result c.from_residual.ensures less (omega arith)

pub terms_left-returns-in_err-left-in-One : goal.terms_left-returns-in_err-left-in-One
terms_left-returns-in_err-left-in-One t c =
    let tables = table c.args.tables.now in
    let own : Term Syntax → ℕ = λ term. sum_by (cost tables) (term_trees tree term) in
    let within = sum-within own c.args.terms.now c.loop-term.term-index c.term-item.result c.loop-term-test.true c.term-item.is in
    let here : own c.term-item.result ≡ cost tables (tree c.in-One.term) = ap own c.in-One.is ∙ one-cost tables (tree c.in-One.term) in
    let whole = sum_by-flat_map (cost tables) (term_trees tree) c.args.terms.now in
    let less : c.args.amount < sum_by (cost tables) (trees_of c.args.terms.now) =
    omega (arith, whole, within, here, c.loop-term.invariant, c.in_err-left-in-One.ensures) in
    none-left c.args.amount _ _ c.from_residual-in_err-left-in-One.result c.from_residual-in_err-left-in-One.ensures less (omega arith)

pub terms_left-loop-term-preserved : goal.terms_left-loop-term-preserved
terms_left-loop-term-preserved t c =
    let tables = table c.args.tables.now in
    let own : Term Syntax → ℕ = λ term. sum_by (cost tables) (term_trees tree term) in
    let more = sum-more own c.args.terms.now c.loop-term.term-index c.term-item.result c.loop-term-test.true c.term-item.is in
    elim c.match-term.branch [
      | terms_left-in-Text+in_ok-left-in-Text w ↦
          let here : own c.term-item.result ≡ length w.in-Text.points.items = ap own w.in-Text.is ∙ characters-cost tables w.in-Text.points.items in
          omega (arith, more, here, c.loop-term.invariant, w.in_ok-left-in-Text.ensures, w.left-is, w.len.ensures)
      | terms_left-in-One+in_ok-left-in-One w ↦
          let here : own c.term-item.result ≡ cost tables (tree w.in-One.term) = ap own w.in-One.is ∙ one-cost tables (tree w.in-One.term) in
          omega (arith, more, here, c.loop-term.invariant, w.in_ok-left-in-One.ensures, w.left-is)
    ]

pub terms_left-returns : goal.terms_left-returns
terms_left-returns t c =
    let tables = table c.args.tables.now in
    let whole = sum_by-flat_map (cost tables) (term_trees tree) c.args.terms.now in
    let all = take_all c.loop-term.term-index c.args.terms.now (omega arith) in
    rw whole (rw all at c.loop-term.invariant)
