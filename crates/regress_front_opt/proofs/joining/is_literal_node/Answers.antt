use Rattle.std.proofs.Common.{sym}
use Rattle.regress_front_opt.proofs.NodeKinds.{no-literal}
use Rattle.regress_front_opt.proofs.joining.is_literal_node.Goals as goal

pub returns-in_default : goal.returns-in_default
returns-in_default c = sym (no-literal c.args.node.now c.in_default.not-ByteSequence)
