use Rattle.std.proofs.Common.{subst}
use Rattle.regress_front_nodes.specs.Trees.{tree}
use Rattle.regress_engine_prefix.specs.Prefixes.{Foretells}
use Rattle.regress_engine_prefix.proofs.ReachLemmas.{Reaches-still, Reaches-one}
use Rattle.regress_engine_prefix.proofs.reach.reach_of_leaf.Goals as goal

pub returns-in-Still : goal.returns-in-Still
returns-in-Still c =
    Reaches-still c.of_nothing.result (tree c.args.node.now) c.of_nothing.ensures (subst (λ p. Foretells p (tree c.args.node.now)) c.in-Still.is c.in_ok-prefix_of_leaf.ensures)

pub returns-in-First : goal.returns-in-First
returns-in-First c =
    Reaches-one c.of_one.result c.in-First.set (tree c.args.node.now) c.of_one.ensures (c.is_one.ensures c.if-is_one.true)
    (subst (λ p. Foretells p (tree c.args.node.now)) c.in-First.is c.in_ok-prefix_of_leaf.ensures)

pub returns-in-Bytes : goal.returns-in-Bytes
returns-in-Bytes c = c.of_front.ensures (tree c.args.node.now) (subst (λ p. Foretells p (tree c.args.node.now)) c.in-Bytes.is c.in_ok-prefix_of_leaf.ensures)
