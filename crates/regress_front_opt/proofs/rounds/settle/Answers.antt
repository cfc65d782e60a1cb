use Rattle.regress_front_nodes.specs.Trees.{tree}
use Rattle.regress_front_rules.specs.Rules.{stays}
use Rattle.regress_front_rules.proofs.KeepLemmas.{reaches-then}
use Rattle.regress_front_opt.proofs.PassLemmas.{advances-lighter, reaches-laws}
use Rattle.regress_front_opt.proofs.RoundLemmas.{round-changed, round-reaches}
use Rattle.regress_front_opt.proofs.rounds.settle.Goals as goal

pub loop-init : goal.loop-init
loop-init c = stays

pub round-requires : goal.round-requires
round-requires c = reaches-laws c.loop.invariant c.requires

pub returns-in_err-round-clause-reached : goal.returns-in_err-round-clause-reached
returns-in_err-round-clause-reached c = reaches-then c.loop.invariant c.in_err-round.ensures.0

pub loop-smaller : goal.loop-smaller
loop-smaller c =
    advances-lighter (round-changed (tree c.loop.node) (tree c.round.new.node) c.in_ok-round.field-0 c.if-branch.true c.in_ok-round.ensures) (reaches-laws c.loop.invariant c.requires)

pub loop-preserved : goal.loop-preserved
loop-preserved c = reaches-then c.loop.invariant (round-reaches (tree c.loop.node) (tree c.round.new.node) c.in_ok-round.field-0 c.in_ok-round.ensures)

pub returns-clause-reached : goal.returns-clause-reached
returns-clause-reached c = reaches-then c.loop.invariant (round-reaches (tree c.loop.node) (tree c.round.new.node) c.in_ok-round.field-0 c.in_ok-round.ensures)
