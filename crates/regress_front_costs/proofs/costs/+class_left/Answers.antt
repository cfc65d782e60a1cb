use Rattle.std.proofs.Common.{◌≡◌, ◌+◌, map, sum_by, arith}
use Rattle.regress_front_tables.specs.TableViews.{table}
use Rattle.regress_front_tokens.specs.Trees.{class_view}
use Rattle.regress_front_tokens.proofs.ClassViews.{class_view-Union, class_view-Intersection, class_view-Difference}
use Rattle.regress_front_costs.specs.Costs.{class_cost}
use Rattle.regress_front_costs.proofs.LeftLemmas.{none-left, then-left}
use Rattle.regress_front_costs.proofs.CostSteps.{union-cost, intersection-cost, difference-cost}
use Rattle.regress_front_costs.proofs.costs.+class_left.Goals as goal

pub class_left-returns-in_err-class_left-in-Intersection : goal.class_left-returns-in_err-class_left-in-Intersection
class_left-returns-in_err-class_left-in-Intersection t c =
    let tables = table c.args.tables.now in
    let others = map class_view c.in-Intersection.others.items in
    let whole : class_cost tables (class_view c.args.class.now) ≡ class_cost tables (class_view c.in-Intersection.first.value) + sum_by (class_cost tables) others =
    rw (c.in-Intersection.is, class_view-Intersection) (intersection-cost tables (class_view c.in-Intersection.first.value) others) in
    none-left c.args.amount _ _ c.from_residual.result c.from_residual.ensures (rw c.deref-in-Intersection-2.ensures at c.in_err-class_left-in-Intersection.ensures) (omega (arith, whole))

pub class_left-returns-in_err-class_left-in-Difference : goal.class_left-returns-in_err-class_left-in-Difference
class_left-returns-in_err-class_left-in-Difference t c =
    let tables = table c.args.tables.now in
    let others = map class_view c.in-Difference.others.items in
    let whole : class_cost tables (class_view c.args.class.now) ≡ class_cost tables (class_view c.in-Difference.first.value) + sum_by (class_cost tables) others =
    rw (c.in-Difference.is, class_view-Difference) (difference-cost tables (class_view c.in-Difference.first.value) others) in
    none-left c.args.amount _ _ c.from_residual-in_err-class_left-in-Difference.result c.from_residual-in_err-class_left-in-Difference.ensures
    (rw c.deref-in-Difference-2.ensures at c.in_err-class_left-in-Difference.ensures) (omega (arith, whole))

pub class_left-returns-in-Union : goal.class_left-returns-in-Union
class_left-returns-in-Union t c =
    rw (c.in-Union.is, class_view-Union, union-cost (table c.args.tables.now) (map class_view c.in-Union.members.items), ← c.deref-in-Union.ensures.value) c.classes_left.ensures

pub class_left-returns-in_ok-class_left-in-Intersection : goal.class_left-returns-in_ok-class_left-in-Intersection
class_left-returns-in_ok-class_left-in-Intersection t c =
    let tables = table c.args.tables.now in
    let others = map class_view c.in-Intersection.others.items in
    let whole : class_cost tables (class_view c.args.class.now) ≡ class_cost tables (class_view c.in-Intersection.first.value) + sum_by (class_cost tables) others =
    rw (c.in-Intersection.is, class_view-Intersection) (intersection-cost tables (class_view c.in-Intersection.first.value) others) in
    then-left c.args.amount _ _ (sum_by (class_cost tables) others) _ c.classes_left-in-Intersection.result (rw c.deref-in-Intersection-2.ensures at c.in_ok-class_left-in-Intersection.ensures)
    (rw c.deref-in-Intersection.ensures.value at c.classes_left-in-Intersection.ensures) whole

pub class_left-returns-in_ok-class_left-in-Difference : goal.class_left-returns-in_ok-class_left-in-Difference
class_left-returns-in_ok-class_left-in-Difference t c =
    let tables = table c.args.tables.now in
    let others = map class_view c.in-Difference.others.items in
    let whole : class_cost tables (class_view c.args.class.now) ≡ class_cost tables (class_view c.in-Difference.first.value) + sum_by (class_cost tables) others =
    rw (c.in-Difference.is, class_view-Difference) (difference-cost tables (class_view c.in-Difference.first.value) others) in
    then-left c.args.amount _ _ (sum_by (class_cost tables) others) _ c.classes_left-in-Difference.result (rw c.deref-in-Difference-2.ensures at c.in_ok-class_left-in-Difference.ensures)
    (rw c.deref-in-Difference.ensures.value at c.classes_left-in-Difference.ensures) whole
