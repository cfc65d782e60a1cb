use Rattle.regress_front_tokens.proofs.RangeLemmas.{opens-Character, opens-ClassEscape, opens-Reference}
use Rattle.regress_front_syntax.proofs.parser.tree_of.Goals as goal

pub returns-in-Point-clause-ranges : goal.returns-in-Point-clause-ranges
returns-in-Point-clause-ranges c = opens-Character c.in-Point.point

pub returns-in-Set-clause-ranges : goal.returns-in-Set-clause-ranges
returns-in-Set-clause-ranges c = opens-ClassEscape c.in-Set.class

pub returns-in-Groups-clause-ranges : goal.returns-in-Groups-clause-ranges
returns-in-Groups-clause-ranges c = opens-Reference c.in-Groups.groups
