use Rattle.std.proofs.Common.{sym}
use Rattle.regress_front_nodes.proofs.KindLemmas.{other_than_empty}
use Rattle.regress_front_nodes.proofs.node.Node.is_empty.Goals as goal

pub returns-in_default : goal.returns-in_default
returns-in_default c = sym (other_than_empty c.args.self.now c.in_default.not-Empty)
