use Rattle.std.proofs.Common.{String, Vec, Global, sym, subst, rules}
use Rattle.std.proofs.lemmas.Iterator.{YieldsList-from_map_by}
use Rattle.std.proofs.lemmas.Iterator.Adapters.{YieldsList-from_vec, serves_from_places}
use Rattle.std.proofs.lemmas.Iterator.Consumers.{YieldsList-at, map_from_collect}
use Rattle.regress_meaning.specs.TableParts.{IntervalsRise}
use Rattle.regress_front_sets.specs.declared.interval.Interval.{Interval}
use Rattle.regress_front_sets.specs.Intervals.{ends_of}
use Rattle.regress_front_tables.specs.Entries.{entry_of}
use Rattle.regress_front_sets.specs.Sets.{ends_in}
use Rattle.regress_front_tables.proofs.tables.property_sets.Goals as goal

pub collect-requires-clause-can : goal.collect-requires-clause-can
collect-requires-clause-can c =
    let Rises : String Global × Vec Interval Global → Type 0 = λ p. IntervalsRise (ends_of p.1.items) in (
      tt,
      serves_from_places (YieldsList-at c.map.ensures.source (YieldsList-from_vec c.args.properties.items (cc) (cc)))
          (λ x q k. search rules)
          (λ x k l e. let rises : Rises x = subst Rises (sym e) (c.requires k x l) in search (rules, rises)),
    )

pub returns : goal.returns
returns c = map_from_collect _ c.collect.ensures.ran
    (YieldsList-from_map_by _ (entry_of ends_in) (entry_of (λ v. ends_of v.items)) (YieldsList-at c.map.ensures.source (YieldsList-from_vec c.args.properties.items (cc) (cc))) c.map.ensures.closure (λ x r q k. search rules))
