use Rattle.std.proofs.Common.{arith}
use Rattle.regress_front_tables.specs.TableViews.{table}
use Rattle.regress_front_tree.proofs.BracketLemmas.{stored_length, takes-one, takes-some}
use Rattle.regress_front_nodes.proofs.TreeLaws.{tree-Char, tree-CharSet}
use Rattle.regress_front_tree.proofs.brackets.character_node.Goals as goal

pub returns-then-len-eq1 : goal.returns-then-len-eq1
returns-then-len-eq1 c = λ e is.
    let points = c.in_ok-points.points in
    let told = c.in_ok-points.ensures in
    rw tree-Char (takes-one (table c.args.tables.now) c.args.unicode e c.args.icase is points.items c.args.c told.all c.requires told.own (omega (arith, stored_length points)))

pub returns-else-len-eq1 : goal.returns-else-len-eq1
returns-else-len-eq1 c = λ e is.
    let points = c.in_ok-points.points in
    let told = c.in_ok-points.ensures in
    rw tree-CharSet (takes-some (table c.args.tables.now) c.args.unicode e c.args.icase is points.items c.args.c told.all told.alone
    (λ one. c.if-len-eq1.false (omega (arith, stored_length points))) (omega (arith, stored_length points, told.few.1)))
