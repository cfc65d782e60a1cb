use Rattle.regress_engine_insn.proofs.CountLemmas.{counted}
use Rattle.regress_engine_insn.proofs.laws.layouts_are_counted.Goals as goal

pub returns : goal.returns
returns c target n t lawful b p q lies = counted target n t b p q lies lawful
