use Rattle.std.proofs.Common.{sym}
use Rattle.regress_front_opt.proofs.NodeKinds.{no-choice}
use Rattle.regress_front_opt.proofs.choices.is_choice_of_empties.Goals as goal

pub returns-in_default : goal.returns-in_default
returns-in_default c = sym (no-choice c.args.node.now c.in_default.not-Alt)
