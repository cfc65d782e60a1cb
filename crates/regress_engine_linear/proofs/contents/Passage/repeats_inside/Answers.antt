use Rattle.std.specs.Prelude.{not}
use Rattle.std.proofs.Common.{ap}
use Rattle.regress_engine_linear.proofs.contents.Passage.repeats_inside.Goals as goal

pub returns : goal.returns
returns c program are = ap not (c.are_asked.ensures program are)
