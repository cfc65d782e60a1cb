use Rattle.std.proofs.Common.{rules, tests, sym, ◌∙◌}
use Rattle.std.specs.List.{flat_map}
use Rattle.std.proofs.lemmas.Iterator.{YieldsList-from_slice}
use Rattle.std.proofs.lemmas.Iterator.Adapters.{option_map_id}
use Rattle.std.proofs.lemmas.Iterator.Consumers.{YieldsList-at, YieldsList-from_filter_map, min_from_yields_List}
use Rattle.regress_front_tables.specs.Breaking.{least_past}
use Rattle.regress_front_tables.proofs.RangeLemmas.{least_past-flat_map}
use Rattle.regress_front_tables.proofs.tables.range.past_in_sequences.Goals as goal

pub returns : goal.returns
returns c =
    let entries = c.args.sequences.now in
    sym (option_map_id _) ∙ min_from_yields_List _ _ c.min.ensures.ran
    (YieldsList-from_filter_map _ (λ e. least_past (flat_map (λ s. s.items) e.1.items)) (YieldsList-at c.filter_map.ensures.source (YieldsList-from_slice entries (cc))) c.filter_map.ensures.closure (λ x r q k. search (rules, tests)))
    ∙ least_past-flat_map (λ e. flat_map (λ s. s.items) e.1.items) entries
