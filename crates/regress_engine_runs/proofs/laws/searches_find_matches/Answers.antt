use Rattle.regress_engine_runs.proofs.ItemLemmas.{finds-exactly, lists-exactly, lists-from_offset, first-is-head}
use Rattle.regress_meaning.specs.Offsets.{told}
use Rattle.regress_meaning.specs.Inputs.{context_of}
use Rattle.regress_engine_runs.proofs.laws.searches_find_matches.Goals as goal

pub returns-clause-first : goal.returns-clause-first
returns-clause-first c = finds-exactly

pub returns-clause-all : goal.returns-clause-all
returns-clause-all c = lists-exactly

pub returns-clause-asked : goal.returns-clause-asked
returns-clause-asked c = lists-from_offset

pub returns-clause-head : goal.returns-clause-head
returns-clause-head c = λ reading input n t p. first-is-head (context_of reading input) n t (told reading) p
