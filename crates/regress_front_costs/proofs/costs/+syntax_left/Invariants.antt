use Rattle.std.proofs.Common.{◌≡◌, ◌+◌, sum_by, take}
use Rattle.regress_front_tables.specs.TableViews.{table}
use Rattle.regress_front_tokens.specs.Trees.{tree, term_trees}
use Rattle.regress_front_costs.specs.Costs.{cost}
use Rattle.regress_front_costs.proofs.costs.+syntax_left.Given as goal

-- what is left, with what the alternatives so far cost
abbrev pub invariant-each_left-loop-part : goal.invariant-each_left-loop-part
invariant-each_left-loop-part l = l.left + sum_by (λ s. cost (table l.tables) (tree s)) (take l.part-index l.parts) ≡ l.amount

-- and what the terms so far cost
abbrev pub invariant-terms_left-loop-term : goal.invariant-terms_left-loop-term
invariant-terms_left-loop-term l = l.left + sum_by (λ t. sum_by (cost (table l.tables)) (term_trees tree t)) (take l.term-index l.terms) ≡ l.amount
