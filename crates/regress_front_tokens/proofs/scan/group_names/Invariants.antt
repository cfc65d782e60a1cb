use Rattle.std.proofs.Common.{◌≡◌, ◌++◌, false, length}
use Rattle.regress_meaning.specs.Scan.{group_names}
use Rattle.regress_front_tables.specs.TableViews.{table}
use Rattle.regress_front_tokens.specs.Cursors.{unread}
use Rattle.regress_front_tokens.specs.Escapes.{texts}
use Rattle.regress_front_tokens.proofs.scan.group_names.Given as goal

abbrev pub invariant-loop-point : goal.invariant-loop-point
invariant-loop-point l = group_names (table l.tables) l.named false 0 l.points ≡ texts l.names ++ group_names (table l.tables) l.named l.in_class 0 (unread l.cursor)

abbrev pub decreases-loop-point : goal.decreases-loop-point
decreases-loop-point l = length (unread l.cursor)
