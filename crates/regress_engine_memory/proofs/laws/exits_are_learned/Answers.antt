use Rattle.regress_engine_memory.proofs.Exits.{exits-last, exits-on}
use Rattle.regress_engine_memory.proofs.laws.exits_are_learned.Goals as goal

pub returns-clause-last : goal.returns-clause-last
returns-clause-last c = exits-last

pub returns-clause-on : goal.returns-clause-on
returns-clause-on c = exits-on
