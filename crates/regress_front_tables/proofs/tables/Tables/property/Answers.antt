use Rattle.std.proofs.Common.{chars, map, sym, ap, ◌∙◌}
use Rattle.std.specs.Option.{option_map}
use Rattle.regress_meaning.specs.TableParts.{entry, in_intervals}
use Rattle.regress_front_sets.specs.Sets.{in_set, ends_in}
use Rattle.regress_front_tables.specs.declared.tables.Known.{Known}
use Rattle.regress_front_tables.specs.Entries.{entry_of}
use Rattle.regress_front_tables.specs.TableViews.{known_by}
use Rattle.regress_front_tables.proofs.EntryLemmas.{entry-map, option_map-copied, option_map-option_map}
use Rattle.regress_front_tables.proofs.tables.Tables.property.Goals as goal

pub returns : goal.returns
returns c =
    let sets = ap (λ es. entry (chars c.args.key.now) (map (entry_of (λ v. v)) es)) (c.deref-2.ensures.value ∙ ap (λ (k : Known). k.properties.items) c.deref.ensures) in
    option_map-copied in_set c.entry.result ∙ ap (option_map in_set) (c.entry.ensures ∙ sets)
    ∙ sym (option_map-option_map in_intervals ends_in _)
    ∙ ap (option_map in_intervals) (entry-map ends_in (chars c.args.key.now) (known_by c.args.self.now).properties.items)
