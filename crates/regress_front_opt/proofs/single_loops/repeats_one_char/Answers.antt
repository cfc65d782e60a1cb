use Rattle.std.proofs.Common.{sym}
use Rattle.regress_front_opt.proofs.NodeKinds.{no-loop}
use Rattle.regress_front_opt.proofs.single_loops.repeats_one_char.Goals as goal

pub returns-in_default : goal.returns-in_default
returns-in_default c = sym (no-loop c.args.node.now c.in_default.not-Loop)
