use Rattle.regress_front_tables.specs.Classes.{members_of}
use Rattle.regress_front_tables.proofs.SharedLemmas.{AreListed}
use Rattle.regress_front_tables.proofs.tables.classes.Classes.new.Given as goal

abbrev pub invariant-loop-to : goal.invariant-loop-to
invariant-loop-to l = AreListed l.pairs l.to-items l.to-index (members_of l.lists.items)
