use Rattle.std.proofs.Common.{◌≡◌, false, length}
use Rattle.regress_meaning.specs.Grammar.{holds_a_name}
use Rattle.regress_front_tokens.specs.Cursors.{unread}
use Rattle.regress_front_tokens.proofs.scan.holds_a_name.Given as goal

abbrev pub invariant-loop-in_class : goal.invariant-loop-in_class
invariant-loop-in_class l = holds_a_name false false l.fn.points ≡ holds_a_name l.in_class false (unread l.cursor)

abbrev pub decreases-loop-in_class : goal.decreases-loop-in_class
decreases-loop-in_class l = length (unread l.cursor)
