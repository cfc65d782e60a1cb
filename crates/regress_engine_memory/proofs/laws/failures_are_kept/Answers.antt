use Rattle.std.proofs.lemmas.List.Elements.{All-cons}
use Rattle.regress_engine_memory.specs.Keys.{FailsAt}
use Rattle.regress_engine_memory.proofs.laws.failures_are_kept.Goals as goal

pub returns : goal.returns
returns c = λ program input keyed k ks fails known. All-cons (FailsAt program input keyed) k ks fails known
