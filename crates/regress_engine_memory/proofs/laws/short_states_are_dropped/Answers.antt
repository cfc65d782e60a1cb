use Rattle.regress_engine_memory.proofs.Needing.{short-dropped}
use Rattle.regress_engine_memory.proofs.laws.short_states_are_dropped.Goals as goal

pub returns : goal.returns
returns c = short-dropped
