use Rattle.regress_engine_memory.proofs.Dropping.{leads-each}
use Rattle.regress_engine_memory.proofs.HeldLemmas.{known-here}
use Rattle.regress_engine_memory.proofs.laws.known_failures_are_dropped.Goals as goal

pub returns-clause-state : goal.returns-clause-state
returns-clause-state c = known-here

pub returns-clause-exits : goal.returns-clause-exits
returns-clause-exits c = leads-each
