use Rattle.std.proofs.Common.{◌≡◌, ap, ◌∙◌, string_bytes, nat_eq, option_copied, rules, tests}
use Rattle.std.specs.List.{find}
use Rattle.std.specs.Option.{option_map}
use Rattle.std.proofs.lemmas.Iterator.{YieldsList-from_slice}
use Rattle.std.proofs.lemmas.Iterator.Search.{find_from_yields_List}
use lib.Pointwise.{pointwise}
use Rattle.regress_front_tables.proofs.EntryLemmas.{entry-find}
use Rattle.regress_front_tables.proofs.tables.entry.Goals as goal

pub returns : goal.returns
returns g c =
    let entries = c.args.entries.now in
    let key = c.args.key.now in
    let found : option_map (λ e. e.now) c.find.result ≡ find (λ e. pointwise nat_eq (string_bytes e.0) key) entries =
    find_from_yields_List (λ e. pointwise nat_eq (string_bytes e.0) key) _ _ c.find.result c.find.ensures.ran (YieldsList-from_slice entries (cc)) (λ x b q k. search (rules, tests)) in
    let value : option_copied c.map.result ≡ option_map (λ e. e.1) (option_map (λ e. e.now) c.find.result) = search rules in
    value ∙ ap (option_map (λ e. e.1)) found ∙ entry-find entries key c.utf8.key
