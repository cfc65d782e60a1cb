use Rattle.std.proofs.Common.{◌≡◌, length}
use Rattle.regress_front_tables.specs.Breaking.{first_out_of_order}
use Rattle.regress_front_tables.proofs.tables.order.first_out_of_order.Given as goal

abbrev pub invariant-loop-rest : goal.invariant-loop-rest
invariant-loop-rest l = first_out_of_order l.rest ≡ first_out_of_order l.pairs

abbrev pub decreases-loop-rest : goal.decreases-loop-rest
decreases-loop-rest l = length l.rest
