use Rattle.regress_front_nodes.specs.Trees.{tree}
use Rattle.regress_front_opt.proofs.RoundLemmas.{walk-round}
use Rattle.regress_front_opt.proofs.rounds.round.Goals as goal

pub returns : goal.returns
returns c = walk-round (tree c.args.node.now) (tree c.visit.new.node) c.visit.result c.visit.ensures
