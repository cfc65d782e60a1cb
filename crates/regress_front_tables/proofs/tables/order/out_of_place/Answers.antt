use Rattle.std.proofs.Common.{◌≡◌, map, rules, ◌∙◌}
use Rattle.std.specs.Option.{option_or}
use Rattle.regress_front_tables.specs.Parts.{parts_of}
use Rattle.regress_front_sets.specs.Intervals.{ends_of}
use Rattle.regress_front_tables.specs.Breaking.{first_out_of_place, first_some, out_of_place}
use Rattle.regress_front_tables.proofs.OrderLemmas.{KeepsCanonical-from_none, IfNone-from_is, IfSome-from_is, out_of_place-parts}
use Rattle.regress_front_tables.proofs.tables.order.out_of_place.Goals as goal
use Rattle.regress_front_tables.proofs.tables.order.out_of_place.Goals.{After-or_else-2}

-- the answer is what the definition tells
told : (c : After-or_else-2) → c.or_else-2.result ≡ out_of_place (parts_of c.args.parts.now)
told c =
    let p = c.args.parts.now in
    let is : c.or_else-2.result ≡ option_or (first_out_of_place (ends_of p.id_start.items)) (option_or (first_out_of_place (ends_of p.id_continue.items)) (first_some (map (λ e. first_out_of_place (ends_of e.1.items)) p.properties.items))) = search rules in
    is ∙ out_of_place-parts p

pub returns-clause-kept : goal.returns-clause-kept
returns-clause-kept c = IfNone-from_is _ _ _ (told c) (KeepsCanonical-from_none c.args.parts.now)

pub returns-clause-broken : goal.returns-clause-broken
returns-clause-broken c = IfSome-from_is _ _ (told c)
