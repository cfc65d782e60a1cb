use Rattle.regress_front_opt.proofs.NodeKinds.{no-letter}
use Rattle.regress_front_opt.proofs.letters.letter_of.Goals as goal

pub returns-in_default : goal.returns-in_default
returns-in_default c = no-letter c.args.node.now c.in_default.not-Char
