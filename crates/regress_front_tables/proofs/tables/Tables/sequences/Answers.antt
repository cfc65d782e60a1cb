use Rattle.std.proofs.Common.{◌≡◌, ℕ, List, Vec, Global, map, chars, option_copied, rules, ap, ◌∙◌}
use Rattle.std.specs.Option.{option_map}
use Rattle.regress_meaning.specs.TableParts.{entry}
use Rattle.regress_front_tables.specs.declared.tables.Known.{Known}
use Rattle.regress_front_tables.specs.Entries.{entry_of}
use Rattle.regress_front_tables.specs.TableViews.{known_by}
use Rattle.regress_front_tables.proofs.EntryLemmas.{entry-map}
use Rattle.regress_front_tables.proofs.tables.Tables.sequences.Goals as goal

pub returns : goal.returns
returns c =
    let shown : Vec (Vec ℕ Global) Global → List (List ℕ) = λ v. map (λ s. s.items) v.items in
    let value : option_map (λ strings. map (λ s. s.items) strings.now) c.map.result ≡ option_map shown (option_copied c.entry.result) = search rules in
    let lists = ap (λ es. entry (chars c.args.key.now) (map (entry_of (λ v. v)) es)) (c.deref-2.ensures.value ∙ ap (λ (k : Known). k.sequences.items) c.deref.ensures) in
    value ∙ ap (option_map shown) (c.entry.ensures ∙ lists) ∙ entry-map shown (chars c.args.key.now) (known_by c.args.self.now).sequences.items
