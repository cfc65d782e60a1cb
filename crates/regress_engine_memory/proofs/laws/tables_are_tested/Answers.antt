use Rattle.regress_engine_memory.proofs.Deciding.{decides}
use Rattle.regress_engine_memory.proofs.laws.tables_are_tested.Goals as goal

pub returns : goal.returns
returns c = decides
