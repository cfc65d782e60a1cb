-- Facts of addresses, of which each stands once for the addresses that share it.
use Rattle.std.specs.Prelude.{ℕ, List, [], map, get_or}
use Rattle.regress_engine_analysis.specs.declared.facts.Facts.{Facts}
use Rattle.regress_engine_analysis.specs.declared.facts.Known.TheVariants.{Nothing}
use Rattle.regress_engine_analysis.specs.declared.shared.SharedFacts.{SharedFacts}
use Rattle.regress_engine_analysis.specs.declared.plan.Plan.{Plan}
use Rattle.regress_engine_analysis.specs.declared.ways.Ways.{Ways}

-- what stands in for facts that are not there
abbrev pub no_facts : Facts
no_facts = record { first = record { 0 = [] }; known = Nothing }

-- the facts of some addresses, by where they stand among others
abbrev pub placed : List Facts → List ℕ → List Facts
placed facts places = map (λ k. get_or facts k no_facts) places

-- the facts of each address
abbrev pub shared : SharedFacts → List Facts
shared s = placed s.facts.items s.places.items

-- what a plan has of each address
abbrev pub facts_of : Plan → List Facts
facts_of plan = shared plan.facts

-- the tables of a plan
abbrev pub tables_of : Plan → List Ways
tables_of plan = plan.ways.items
