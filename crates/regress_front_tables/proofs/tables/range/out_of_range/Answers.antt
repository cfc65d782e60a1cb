use Rattle.std.proofs.Common.{◌≡◌}
use Rattle.regress_front_tables.specs.Parts.{parts_of}
use Rattle.regress_front_tables.specs.Breaking.{least_past, numbers}
use Rattle.regress_front_tables.proofs.OrderLemmas.{IfNone-from_is}
use Rattle.regress_front_tables.proofs.RangeLemmas.{least_past-parts, All-from_least_past, IsLeast-from_least_past, KeepsRange-from_numbers}
use Rattle.regress_front_tables.proofs.tables.range.out_of_range.Goals as goal
use Rattle.regress_front_tables.proofs.tables.range.out_of_range.Goals.{After-least}

-- the answer is the least past the last code point
told : (c : After-least) → c.least.result ≡ least_past (numbers (parts_of c.args.parts.now))
told c = let is = least_past-parts c.args.parts.now in cc

pub returns-clause-kept : goal.returns-clause-kept
returns-clause-kept c =
    let parts = parts_of c.args.parts.now in
    IfNone-from_is _ _ _ (told c) (λ none. KeepsRange-from_numbers parts (All-from_least_past (numbers parts) none))

pub returns-clause-broken : goal.returns-clause-broken
returns-clause-broken c = IsLeast-from_least_past _ _ (told c)
