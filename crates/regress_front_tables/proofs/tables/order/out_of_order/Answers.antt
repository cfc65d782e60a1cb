use Rattle.std.proofs.Common.{◌≡◌, rules}
use Rattle.regress_front_tables.specs.Parts.{parts_of}
use Rattle.regress_front_tables.specs.Breaking.{out_of_order}
use Rattle.regress_front_tables.proofs.OrderLemmas.{KeepsOrder-from_none, IfNone-from_is}
use Rattle.regress_front_tables.proofs.tables.order.out_of_order.Goals as goal

pub returns-clause-kept : goal.returns-clause-kept
returns-clause-kept c =
    let parts = parts_of c.args.parts.now in
    let is : c.or_else.result ≡ out_of_order parts = search rules in
    IfNone-from_is _ _ _ is (KeepsOrder-from_none parts)
