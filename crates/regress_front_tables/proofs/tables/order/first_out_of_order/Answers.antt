use Rattle.std.proofs.Common.{sym, ◌∙◌}
use Rattle.regress_front_tables.proofs.OrderLemmas.{first_out_of_order-short}
use Rattle.regress_front_tables.proofs.tables.order.first_out_of_order.Goals as goal

pub returns : goal.returns
returns c = sym (first_out_of_order-short c.loop-rest.rest.now c.in_default.len_below) ∙ c.loop-rest.invariant
