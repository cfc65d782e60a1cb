use Rattle.std.proofs.Common.{◌≡◌, rules}
use Rattle.std.specs.Prelude.{max}
use Rattle.std.specs.Option.{option_map}
use Rattle.std.proofs.lemmas.Iterator.{YieldsList-from_slice}
use Rattle.std.proofs.lemmas.Iterator.Search.{find_from_yields_List}
use borrow.Author.Tests.{tests}
use Rattle.regress_front_tables.proofs.SurrogateLemmas.{meets_surrogates, TellsLeast-surrogate}
use Rattle.regress_front_tables.proofs.tables.single.first_surrogate.Goals as goal

pub returns : goal.returns
returns c =
    let intervals = c.args.intervals.now in
    let found = find_from_yields_List meets_surrogates _ _ c.find.result c.find.ensures.ran (YieldsList-from_slice intervals cc) (λ x b q k. search (rules, tests)) in
    let mapped : c.map.result ≡ option_map (λ i. max i.first 0xD800) (option_map (λ x. x.now) c.find.result) = search rules in
    rw (mapped, found) (TellsLeast-surrogate intervals c.requires)
