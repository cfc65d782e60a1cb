use Rattle.regress_engine_search.proofs.ProducerLemmas.{items-of_tree, items-asked, match-in_bytes}
use Rattle.regress_engine_search.proofs.laws.executors_list_matches.Goals as goal

pub returns-clause-items : goal.returns-clause-items
returns-clause-items c = items-of_tree

pub returns-clause-asked : goal.returns-clause-asked
returns-clause-asked c = items-asked

pub returns-clause-in_bytes : goal.returns-clause-in_bytes
returns-clause-in_bytes c = λ s are all m found. (match-in_bytes s.view.kind s.view.units are all m found.0, found.1)
