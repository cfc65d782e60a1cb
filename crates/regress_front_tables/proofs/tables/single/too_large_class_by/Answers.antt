use Rattle.std.proofs.Common.{◌≡◌, ℕ, nat_lt, Bool, rules}
use Rattle.std.specs.Map.Iter.{deref_pair}
use Rattle.std.specs.Option.{option_map}
use Rattle.std.proofs.lemmas.Iterator.Consumers.{YieldsList-from_rest}
use Rattle.std.proofs.lemmas.Iterator.Search.{find_from_yields_List}
use borrow.Author.Tests.{tests}
use Rattle.regress_front_tables.proofs.ClassLemmas.{TellsLeast-classes}
use Rattle.regress_front_tables.proofs.tables.single.too_large_class_by.Goals as goal

pub returns : goal.returns
returns c =
    let pairs = c.args.pairs.now in
    let sizes = c.in_ok-sizes.sizes in
    let large : ℕ × ℕ → Bool = λ e. nat_lt 4 e.1 in
    let found = find_from_yields_List large _ _ c.find.result c.find.ensures.ran (YieldsList-from_rest sizes.entries c.iter.ensures.rest) (λ x b q k. search (rules, tests)) in
    let mapped : c.map.result ≡ option_map (λ e. e.0) (option_map deref_pair c.find.result) = search rules in
    rw (mapped, found) (TellsLeast-classes pairs c.requires.order c.requires.range c.requires.idempotent sizes c.iter.ensures.ordered c.in_ok-sizes.ensures)
