use Rattle.std.proofs.Common.{◌≡◌, ◌+◌, sum_by, take}
use Rattle.regress_front_tables.specs.TableViews.{table}
use Rattle.regress_front_tokens.specs.Trees.{class_view}
use Rattle.regress_front_costs.specs.Costs.{class_cost}
use Rattle.regress_front_costs.proofs.costs.+class_left.Given as goal

-- what is left, with what the classes so far cost
abbrev pub invariant-classes_left-loop-class : goal.invariant-classes_left-loop-class
invariant-classes_left-loop-class l = l.left + sum_by (λ c. class_cost (table l.tables) (class_view c)) (take l.class-index l.classes) ≡ l.amount
